use Rattle.std.proofs.Common.{◌≡◌, drop, map}
use Rattle.std.specs.List.{list_all}
use Rattle.sign_tree.specs.Read.{placed_of}
use Rattle.sign_tree.specs.Walk.{has_no_minus}
use Rattle.sign_tree.proofs.leaf.have_no_minus.Given as goal

abbrev pub invariant-loop-multiplier : goal.invariant-loop-multiplier
invariant-loop-multiplier l = list_all has_no_minus (map placed_of l.multipliers) ≡ list_all has_no_minus (drop l.multiplier-index (map placed_of l.multipliers))
