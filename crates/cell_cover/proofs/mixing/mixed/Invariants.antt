use Rattle.std.proofs.Common.{◌≡◌, drop, map}
use Rattle.frac.specs.Range.{limit}
use Rattle.cell_cover.specs.Read.{multiplier_of}
use Rattle.cell_cover.specs.Rows.{row_of}
use Rattle.cell_cover.specs.Kinked.{classes_as, knowledge_as}
use Rattle.cell_cover.specs.Walk.{mixed}
use Rattle.cell_cover.proofs.mixing.mixed.Given as goal

abbrev pub invariant-loop-multiplier : goal.invariant-loop-multiplier
invariant-loop-multiplier l =
    let mix = mixed limit (classes_as l.kinked) (knowledge_as l.kinked.entries l.known) in
    mix (row_of l.kinked.entries l.fn.start) (map multiplier_of l.multipliers)
    ≡ mix (row_of l.kinked.entries l.totals) (drop l.multiplier-index (map multiplier_of l.multipliers))
