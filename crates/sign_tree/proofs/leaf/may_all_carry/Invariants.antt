use Rattle.std.proofs.Common.{◌≡◌, drop, map}
use Rattle.std.specs.List.{list_all}
use Rattle.frac.specs.Value.{fraction_of}
use Rattle.sign_tree.specs.Read.{placed_of, sign_of}
use Rattle.sign_tree.specs.Walk.{fraction_legs, may_carry}
use Rattle.sign_tree.proofs.leaf.may_all_carry.Given as goal

abbrev pub invariant-loop-multiplier : goal.invariant-loop-multiplier
invariant-loop-multiplier l =
    let test = may_carry (fraction_legs l.orders (map fraction_of l.fills)) (map sign_of l.signs) in
    list_all test (map placed_of l.multipliers) ≡ list_all test (drop l.multiplier-index (map placed_of l.multipliers))
