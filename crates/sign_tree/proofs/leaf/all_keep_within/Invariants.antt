use Rattle.std.proofs.Common.{◌≡◌, drop, map}
use Rattle.exact_num.specs.Steps.{all_of}
use Rattle.frac.specs.Range.{limit}
use Rattle.frac.specs.Value.{fraction_of}
use Rattle.sign_tree.specs.Read.{placed_of}
use Rattle.sign_tree.specs.Walk.{fraction_legs, keeps_within}
use Rattle.sign_tree.proofs.leaf.all_keep_within.Given as goal

abbrev pub invariant-loop-multiplier : goal.invariant-loop-multiplier
invariant-loop-multiplier l =
    let test = keeps_within limit (fraction_legs l.orders (map fraction_of l.fills)) in
    all_of test (map placed_of l.multipliers) ≡ all_of test (drop l.multiplier-index (map placed_of l.multipliers))
