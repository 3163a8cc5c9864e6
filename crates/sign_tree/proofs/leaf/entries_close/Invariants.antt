use Rattle.std.proofs.Common.{◌≡◌, ◌-◌, map}
use Rattle.frac.specs.Range.{limit}
use Rattle.frac.specs.Value.{fraction_of}
use Rattle.sign_tree.specs.Read.{placed_of, sign_of}
use Rattle.sign_tree.specs.Walk.{entries_close, fraction_legs}
use Rattle.sign_tree.proofs.leaf.entries_close.Given as goal

-- the entries from i on decide
abbrev pub invariant-loop-i : goal.invariant-loop-i
invariant-loop-i l =
    let legs = fraction_legs l.filled.orders.now (map fraction_of l.filled.fills.now) in
    let closes = entries_close limit legs (fraction_of l.filled.liability.now) (map sign_of l.signs) (map placed_of l.multipliers) in
    closes 0 l.filled.entries ≡ closes l.i (l.filled.entries - l.i)
