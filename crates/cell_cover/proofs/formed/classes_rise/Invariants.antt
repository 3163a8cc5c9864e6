use Rattle.std.proofs.Common.{◌≡◌, drop}
use Rattle.cell_cover.specs.Cells.{classes_rise}
use Rattle.cell_cover.proofs.formed.classes_rise.Given as goal

abbrev pub invariant-loop-class : goal.invariant-loop-class
invariant-loop-class l = classes_rise l.count 0 l.classes ≡ classes_rise l.count l.last (drop l.class-index l.classes)
