use Rattle.std.proofs.Common.{◌∙◌, to_z-of_z, rules}
use mir.Val.{SFits}
use mir.Syntax.{w128}
use Rattle.frac.proofs.SumSteps.{parts_of_sum, left_stops, right_stops, total_ends}
use Rattle.frac.proofs.sums.total.Goals as goal

pub returns-in_err-left : goal.returns-in_err-left
returns-in_err-left c = c.from_residual.ensures ∙ left_stops _ _ _ _ _ c.requires.divisor c.numerator_over.ensures c.in_err-left.was

pub returns-in_err-right : goal.returns-in_err-right
returns-in_err-right c =
    c.from_residual-in_err-right.ensures
    ∙ right_stops _ _ _ _ _ c.in_ok-left.left (parts_of_sum _ _ _ _ _ _ c.requires.divisor c.numerator_over.ensures c.numerator_over-2.ensures) c.in_ok-left.was c.in_err-right.was

pub returns : goal.returns
returns c =
    let l : SFits w128 c.in_ok-left.left = search rules in
    let r : SFits w128 c.in_ok-right.right = search rules in
    let e = simp to_z-of_z at c.whole_sum.ensures in
    e ∙ total_ends _ _ _ _ _ _ _ (parts_of_sum _ _ _ _ _ _ c.requires.divisor c.numerator_over.ensures c.numerator_over-2.ensures) c.in_ok-left.was c.in_ok-right.was
