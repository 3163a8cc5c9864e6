use Rattle.std.proofs.Common.{◌≡◌, drop}
use Rattle.cell_cover.specs.Rows.{row_of}
use Rattle.cell_cover.specs.Rowed.{is_same_row}
use Rattle.cell_cover.proofs.kinks.is_same_row.Given as goal

abbrev pub invariant-loop-i : goal.invariant-loop-i
invariant-loop-i l = is_same_row (row_of l.count l.row) (row_of l.count l.other) ≡ is_same_row (drop l.i (row_of l.count l.row)) (drop l.i (row_of l.count l.other))
