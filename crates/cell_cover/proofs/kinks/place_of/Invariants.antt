use Rattle.std.proofs.Common.{◌≡◌, ◌+◌, drop}
use Rattle.cell_cover.specs.Rows.{row_of}
use Rattle.cell_cover.specs.Rowed.{row_index, rows_in}
use Rattle.cell_cover.proofs.kinks.place_of.Given as goal

abbrev pub invariant-loop-place : goal.invariant-loop-place
invariant-loop-place l =
    let index = row_index (row_of l.count l.entries) in
    index (rows_in l.count l.classes) ≡ l.place + index (drop l.place (rows_in l.count l.classes))
