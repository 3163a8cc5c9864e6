use Rattle.std.proofs.Common.{◌≡◌, ◌+◌, length, map}
use Rattle.sign_tree.specs.Left.{IsAtLeg}
use Rattle.sign_tree.specs.Read.{sign_of}
use Rattle.pricing_oracle.specs.Nodes.{covering_of, in_roles, legs_asked, roles_left}
use Rattle.pricing_oracle.proofs.rows.cover_count.Given as goal

-- those counted and those left are all
abbrev pub invariant-loop-leg : goal.invariant-loop-leg
invariant-loop-leg g l =
    let value = g.N.Exact.fraction in
    (l.count + length (covering_of (roles_left value l.left)) ≡ length (covering_of (in_roles (legs_asked value l.asked) (map sign_of l.signs))))
    × IsAtLeg l.left.legs

abbrev pub decreases-loop-leg : goal.decreases-loop-leg
decreases-loop-leg g l = length (roles_left g.N.Exact.fraction l.left)
