use Rattle.std.proofs.Common.{◌≡◌, ◌+◌, ◌≤◌, ◌++◌, length, map}
use Rattle.std.specs.Prelude.{vec_capacity, vec_len}
use Rattle.sign_tree.specs.Left.{IsAtLeg}
use Rattle.sign_tree.specs.Read.{placed_of, sign_of}
use Rattle.simplex.specs.Spaces.{y_of}
use Rattle.master_program.specs.Roles.{placed_from}
use Rattle.master_program.specs.Search.{leaf_of}
use Rattle.master_program.specs.NodeSteps.{counted_node}
use Rattle.pricing_oracle.specs.Nodes.{legs_asked, roles_left}
use Rattle.pricing_oracle.proofs.MultiplierRows.{AreRowsLeft, multipliers_from}
use Rattle.pricing_oracle.proofs.reading.add_multipliers.Given as goal

-- those added, and then those of the legs that are left, are all
abbrev pub invariant-loop-leg : goal.invariant-loop-leg
invariant-loop-leg g l =
    let value = g.N.Exact.fraction in
    let y = y_of l.space.contents in
    let left = roles_left value l.left in
    record {
      added : map placed_of l.fn.multipliers.items ++ leaf_of (counted_node (legs_asked value l.asked) (map sign_of l.signs)) y
          ≡ map placed_of l.multipliers.items ++ placed_from l.place (multipliers_from left l.rows y);
      rows : AreRowsLeft l.asked.underlyings left l.rows (length y);
      room : vec_len l.multipliers + length (placed_from l.place (multipliers_from left l.rows y)) ≤ vec_capacity l.multipliers;
      kept : vec_capacity l.fn.multipliers ≤ vec_capacity l.multipliers;
      few : vec_len l.multipliers + length left ≤ vec_len l.fn.multipliers + length l.signs;
      places : l.place + length left ≤ length l.signs + 1;
      small : length y ≤ length l.signs + 1;
      at : IsAtLeg l.left.legs;
    }

abbrev pub decreases-loop-leg : goal.decreases-loop-leg
decreases-loop-leg g l = length (roles_left g.N.Exact.fraction l.left)
