use Rattle.std.proofs.Common.{◌≡◌, drop, map}
use Rattle.cell_cover.specs.Cells.{class_in, classes_rise}
use Rattle.cell_cover.specs.Read.{multiplier_of}
use Rattle.cell_cover.proofs.formed.multipliers_rise.Given as goal

abbrev pub invariant-loop-multiplier : goal.invariant-loop-multiplier
invariant-loop-multiplier l =
    let classes = map class_in (map multiplier_of l.multipliers) in
    classes_rise l.count 0 classes ≡ classes_rise l.count l.last (drop l.multiplier-index classes)
