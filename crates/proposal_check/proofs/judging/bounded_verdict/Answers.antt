use Rattle.std.proofs.lemmas.Result.{IfOk-weaker}
use Rattle.cert_check.proofs.Yes.{on_yes}
use Rattle.proposal_check.proofs.Proposals.{bounded_shows}
use Rattle.proposal_check.proofs.judging.bounded_verdict.Goals as goal

pub returns-clause-met : goal.returns-clause-met
returns-clause-met c =
    IfOk-weaker c.verdict_on.result _ _
    (λ judgement is. on_yes judgement (λ shows. shows.met) (bounded_shows c.args.batch.now c.args.proposal.now c.args.bound.now judgement is).0) c.verdict_on.ensures

pub returns-clause-unmet : goal.returns-clause-unmet
returns-clause-unmet c =
    IfOk-weaker c.verdict_on.result _ _ (λ judgement is. (bounded_shows c.args.batch.now c.args.proposal.now c.args.bound.now judgement is).1) c.verdict_on.ensures

pub returns-clause-covers : goal.returns-clause-covers
returns-clause-covers c =
    IfOk-weaker c.verdict_on.result _ _
    (λ judgement is. on_yes judgement (λ shows. shows.covered) (bounded_shows c.args.batch.now c.args.proposal.now c.args.bound.now judgement is).0) c.verdict_on.ensures

pub returns-clause-measured : goal.returns-clause-measured
returns-clause-measured c =
    IfOk-weaker c.verdict_on.result _ _
    (λ judgement is. on_yes judgement (λ shows. shows.measured) (bounded_shows c.args.batch.now c.args.proposal.now c.args.bound.now judgement is).0) c.verdict_on.ensures

pub returns-clause-bounds : goal.returns-clause-bounds
returns-clause-bounds c =
    IfOk-weaker c.verdict_on.result _ _
    (λ judgement is. on_yes judgement (λ shows. shows.bounds) (bounded_shows c.args.batch.now c.args.proposal.now c.args.bound.now judgement is).0) c.verdict_on.ensures
