use Rattle.std.proofs.Common.{◌≡◌, length, map, unsigned_abs}
use Rattle.exact_num.specs.Steps.{fold_steps}
use Rattle.sign_tree.specs.Left.{IsAtLeg}
use Rattle.sign_tree.specs.Read.{sign_of}
use Rattle.simplex_run.specs.Places.{fraction_zero}
use Rattle.pricing_oracle.specs.Nodes.{add_earned_by, in_roles, legs_asked, roles_left}
use Rattle.pricing_oracle.proofs.costs.earned_at.Given as goal

-- what is left to add, added to the total, is the whole sum
abbrev pub invariant-loop-leg : goal.invariant-loop-leg
invariant-loop-leg g l =
    let step = add_earned_by (unsigned_abs g.N.Exact.LIMIT) l.i in
    (fold_steps step fraction_zero (in_roles (legs_asked g.N.Exact.fraction l.asked) (map sign_of l.signs))
    ≡ fold_steps step (g.N.Exact.fraction l.total) (roles_left g.N.Exact.fraction l.left))
    × IsAtLeg l.left.legs

abbrev pub decreases-loop-leg : goal.decreases-loop-leg
decreases-loop-leg g l = length (roles_left g.N.Exact.fraction l.left)
