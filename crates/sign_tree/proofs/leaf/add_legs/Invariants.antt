use Rattle.std.proofs.Common.{◌≡◌, ◌+◌, drop, map, pos}
use Rattle.exact_num.specs.Fraction.{whole}
use Rattle.exact_num.specs.Steps.{fold_steps}
use Rattle.frac.specs.Range.{limit}
use Rattle.frac.specs.Value.{fraction_of}
use Rattle.sign_tree.specs.Legs.{fraction_legs}
use Rattle.sign_tree.specs.Left.{legs_left, IsAtLeg}
use Rattle.sign_tree.specs.Read.{placed_of, sign_of}
use Rattle.sign_tree.specs.Walk.{add_leg, signed_legs}
use Rattle.sign_tree.proofs.leaf.add_legs.Given as goal

-- what is left to add, added to the total, is the whole sum
abbrev pub invariant-loop-j : goal.invariant-loop-j
invariant-loop-j l =
    (fold_steps (add_leg limit l.i) (whole (pos 0)) (signed_legs 1 (fraction_legs l.orders (map fraction_of l.fills)) (map sign_of l.signs) (map placed_of l.multipliers))
    ≡ fold_steps (add_leg limit l.i) (fraction_of l.total) (signed_legs (l.j + 1) (legs_left fraction_of l.left) (drop l.j (map sign_of l.signs)) (map placed_of l.rest)))
    × IsAtLeg l.left
