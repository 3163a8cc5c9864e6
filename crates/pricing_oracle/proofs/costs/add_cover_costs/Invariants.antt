use Rattle.std.specs.Prelude.{vec_capacity, vec_len}
use Rattle.std.proofs.Common.{◌≡◌, ◌+◌, ◌≤◌, length, map, unsigned_abs}
use Rattle.master_program.specs.Master.{map_steps}
use Rattle.sign_tree.specs.Left.{IsAtLeg}
use Rattle.sign_tree.specs.Read.{sign_of}
use Rattle.master_program.specs.NodeSteps.{cover_cost_steps}
use Rattle.pricing_oracle.specs.Built.{list_then}
use Rattle.pricing_oracle.specs.Nodes.{covering_of, in_roles, legs_asked, roles_left}
use Rattle.pricing_oracle.proofs.costs.add_cover_costs.Given as goal

-- what is left to add, behind what was added, is all
abbrev pub invariant-loop-leg : goal.invariant-loop-leg
invariant-loop-leg g l =
    let value = g.N.Exact.fraction in
    let f = cover_cost_steps (unsigned_abs g.N.Exact.LIMIT) in
    record {
      added : list_then (map value l.fn.row.items) (map_steps f (covering_of (in_roles (legs_asked value l.asked) (map sign_of l.signs))))
          ≡ list_then (map value l.row.items) (map_steps f (covering_of (roles_left value l.left)));
      at : IsAtLeg l.left.legs;
      left : vec_len l.row + length (roles_left value l.left) ≤ vec_capacity l.row;
      room : vec_capacity l.fn.row ≤ vec_capacity l.row;
    }

abbrev pub decreases-loop-leg : goal.decreases-loop-leg
decreases-loop-leg g l = length (roles_left g.N.Exact.fraction l.left)
