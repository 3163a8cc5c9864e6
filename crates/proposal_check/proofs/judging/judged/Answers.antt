use Rattle.std.proofs.Common.{◌≡◌, true, sym, rules, ◌∙◌}
use Rattle.std.proofs.lemmas.Result.{IfOk-weaker}
use Rattle.cert_check.specs.Shape.{are_fills}
use Rattle.proposal_check.proofs.Proposals.{from_cover}
use Rattle.proposal_check.proofs.Shapes.{shaped}
use Rattle.proposal_check.proofs.judging.judged.Goals as goal

pub covered_bound-requires-clause-forms : goal.covered_bound-requires-clause-forms
covered_bound-requires-clause-forms c =
    let is = shaped c.args.batch.now c.args.proposal.now (sym c.in_ok-has_shape.ensures ∙ c.if-not-branch.false) in
    record { some = c.requires.underlyings.0; few = c.requires.underlyings.1; forms = is.on.forms }

pub covered_bound-requires-clause-fills : goal.covered_bound-requires-clause-fills
covered_bound-requires-clause-fills c = (shaped c.args.batch.now c.args.proposal.now (sym c.in_ok-has_shape.ensures ∙ c.if-not-branch.false)).on.fills

pub covered_bound-requires-clause-cover : goal.covered_bound-requires-clause-cover
covered_bound-requires-clause-cover c = (shaped c.args.batch.now c.args.proposal.now (sym c.in_ok-has_shape.ensures ∙ c.if-not-branch.false)).cover

pub covered_bound-requires-clause-states : goal.covered_bound-requires-clause-states
covered_bound-requires-clause-states c = (shaped c.args.batch.now c.args.proposal.now (sym c.in_ok-has_shape.ensures ∙ c.if-not-branch.false)).on.states

pub returns : goal.returns
returns c =
    let batch = c.args.batch.now in
    let proposal = c.args.proposal.now in
    let filled : are_fills batch.orders proposal.fills ≡ true = search rules in
    let same = from_cover batch proposal (sym c.in_ok-has_shape.ensures ∙ c.if-not-branch.false) filled in
    IfOk-weaker c.covered_bound.result _ _ (λ judged is. is ∙ sym same) c.covered_bound.ensures
