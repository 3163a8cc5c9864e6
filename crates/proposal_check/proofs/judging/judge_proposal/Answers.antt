use Rattle.std.proofs.lemmas.Result.{IfOk-weaker}
use Rattle.cert_check.specs.Laws.{IsCovered}
use Rattle.proposal_check.specs.Proposals.{as_outcome}
use Rattle.proposal_check.specs.ProposalLaws.{AreMet, HasBound, BoundSurplus}
use Rattle.proposal_check.proofs.Proposals.{on_bound, on_failed}
use Rattle.proposal_check.proofs.judging.judge_proposal.Goals as goal

pub returns-clause-met : goal.returns-clause-met
returns-clause-met c =
    IfOk-weaker c.judged.result _ _
    (λ judged is. on_bound (λ B. AreMet c.args.batch.now c.args.proposal.now) c.args.batch.now c.args.proposal.now judged (λ B shows. shows.met) is) c.judged.ensures

pub returns-clause-unmet : goal.returns-clause-unmet
returns-clause-unmet c = IfOk-weaker c.judged.result _ _ (λ judged is. on_failed c.args.batch.now c.args.proposal.now judged is) c.judged.ensures

pub returns-clause-covers : goal.returns-clause-covers
returns-clause-covers c =
    IfOk-weaker c.judged.result _ _
    (λ judged is. on_bound (λ B. IsCovered c.args.batch.now (as_outcome c.args.proposal.now)) c.args.batch.now c.args.proposal.now judged (λ B shows. shows.covered) is) c.judged.ensures

pub returns-clause-measured : goal.returns-clause-measured
returns-clause-measured c =
    IfOk-weaker c.judged.result _ _
    (λ judged is. on_bound (HasBound c.args.batch.now c.args.proposal.now) c.args.batch.now c.args.proposal.now judged (λ B shows. shows.measured) is) c.judged.ensures

pub returns-clause-bounds : goal.returns-clause-bounds
returns-clause-bounds c =
    IfOk-weaker c.judged.result _ _
    (λ judged is. on_bound (BoundSurplus c.args.batch.now c.args.proposal.now) c.args.batch.now c.args.proposal.now judged (λ B shows. shows.bounds) is) c.judged.ensures
