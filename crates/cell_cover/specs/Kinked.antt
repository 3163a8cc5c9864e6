-- The classes and cells of the code as those of the walk.
use Rattle.std.specs.Prelude.{ℕ, List, map}
use Rattle.exact_num.specs.Fraction.{Fraction}
use Rattle.cell_cover.specs.declared.kinked.Kinked.{Kinked}
use Rattle.cell_cover.specs.declared.kinked.Cell.{Cell}
use Rattle.cell_cover.specs.declared.vectors.Class.{Class}
use Rattle.cell_cover.specs.declared.vectors.Knowledge.{Knowledge}
use Rattle.cell_cover.specs.Closed.{Known}
use Rattle.cell_cover.specs.Rows.{row_of, class_as, known_as}
use Rattle.cell_cover.specs.Walk.{WalkClass}
use Rattle.cell_cover.specs.Walk.{Cell as WalkCell}

abbrev pub all_as : ℕ → List Class → List WalkClass
all_as count classes = map (class_as count) classes

abbrev pub classes_as : Kinked → List WalkClass
classes_as kinked = all_as kinked.entries kinked.classes.now

abbrev pub knowledge_as : ℕ → List Knowledge → List (Known (List Fraction))
knowledge_as count known = map (known_as count) known

abbrev pub cell_as : ℕ → Cell → WalkCell
cell_as count cell = record { sums = row_of count cell.sums.now; known = knowledge_as count cell.known.now }
