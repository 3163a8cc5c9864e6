use Rattle.std.proofs.Common.{ℕ, List, sym, ap, subst, ◌∙◌}
use Rattle.std.proofs.lemmas.Result.{IfOk-weaker}
use Rattle.proposal_check.specs.Proposals.{proposal_bound}
use Rattle.frac.specs.Range.{limit}
use Rattle.order_book.specs.Numbers.{numbers_of}
use Rattle.proposals.specs.Best.{are_same_orders}
use Rattle.proposal_lines.specs.Proposed.{IsJudged}
use Rattle.proposal_lines.proofs.Charging.{offered_bound, offered_failed}
use Rattle.proposal_lines.proofs.judging.judge.Goals as goal

pub returns-in-Ok : goal.returns-in-Ok
returns-in-Ok c =
    let batch = c.args.batch.now in
    let same = ap (λ (orders : List ℕ). are_same_orders orders (numbers_of batch.orders)) (sym c.as_slice.ensures) ∙ sym c.in_ok-is_for.ensures ∙ c.if-not-branch.false in
    IfOk-weaker c.keep.result _ _ (λ reply is. is ∙ offered_bound c.args.kept.now c.args.proposed batch same c.in-Ok.bound
    (subst (IsJudged (proposal_bound limit batch c.args.proposed.submission.proposal)) c.in-Ok.is c.in_ok-bound.ensures)) c.keep.ensures

pub returns-in-Err : goal.returns-in-Err
returns-in-Err c =
    let batch = c.args.batch.now in
    let same = ap (λ (orders : List ℕ). are_same_orders orders (numbers_of batch.orders)) (sym c.as_slice.ensures) ∙ sym c.in_ok-is_for.ensures ∙ c.if-not-branch.false in
    offered_failed c.args.kept.now c.args.proposed batch same c.in-Err.failed
    (subst (IsJudged (proposal_bound limit batch c.args.proposed.submission.proposal)) c.in-Err.is c.in_ok-bound.ensures)
