use Rattle.std.proofs.Common.{◌≡◌, ◌+◌, ◌≤◌, length, map}
use Rattle.sign_tree.specs.Left.{IsAtLeg}
use Rattle.sign_tree.specs.Read.{sign_of}
use Rattle.master_program.specs.Roles.{split_from}
use Rattle.pricing_oracle.specs.Nodes.{in_roles, legs_asked, node_leg, roles_left}
use Rattle.pricing_oracle.proofs.splitting.split_place.Given as goal

-- the first place from here on is the first
abbrev pub invariant-loop-leg : goal.invariant-loop-leg
invariant-loop-leg g l =
    let value = g.N.Exact.fraction in
    let n = l.asked.underlyings in
    (split_from n 0 (map node_leg (in_roles (legs_asked value l.asked) (map sign_of l.signs))) ≡ split_from n l.place (map node_leg (roles_left value l.left)))
    × (l.place + length (roles_left value l.left) ≤ length l.signs)
    × IsAtLeg l.left.legs

abbrev pub decreases-loop-leg : goal.decreases-loop-leg
decreases-loop-leg g l = length (roles_left g.N.Exact.fraction l.left)
