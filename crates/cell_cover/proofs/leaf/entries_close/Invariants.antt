use Rattle.std.proofs.Common.{◌≡◌, ◌-◌, map}
use Rattle.frac.specs.Range.{limit}
use Rattle.frac.specs.Value.{fraction_of}
use Rattle.cell_cover.specs.Read.{multiplier_of}
use Rattle.cell_cover.specs.Kinked.{cell_as, classes_as}
use Rattle.cell_cover.specs.Walk.{entries_close}
use Rattle.cell_cover.proofs.leaf.entries_close.Given as goal

-- the entries from i on decide
abbrev pub invariant-loop-i : goal.invariant-loop-i
invariant-loop-i l =
    let closes = entries_close limit (classes_as l.kinked) (fraction_of l.kinked.liability.now) (cell_as l.kinked.entries l.cell) l.full (map multiplier_of l.multipliers) in
    closes 0 l.kinked.entries ≡ closes l.i (l.kinked.entries - l.i)
