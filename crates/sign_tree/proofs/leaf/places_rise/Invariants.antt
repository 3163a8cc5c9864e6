use Rattle.std.proofs.Common.{◌≡◌, drop, map}
use Rattle.sign_tree.specs.Read.{placed_of}
use Rattle.sign_tree.specs.Walk.{places_rise}
use Rattle.sign_tree.proofs.leaf.places_rise.Given as goal

abbrev pub invariant-loop-multiplier : goal.invariant-loop-multiplier
invariant-loop-multiplier l = places_rise 0 (map placed_of l.multipliers) ≡ places_rise l.last (drop l.multiplier-index (map placed_of l.multipliers))
