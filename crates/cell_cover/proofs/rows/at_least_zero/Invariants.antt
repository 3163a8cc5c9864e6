use Rattle.std.proofs.Common.{pos}
use Rattle.exact_num.specs.Fraction.{whole}
use Rattle.exact_num.specs.Tests.{greater_of}
use Rattle.cell_cover.specs.Rows.{row_of}
use Rattle.cell_cover.proofs.RowLoops.{MappedTo}
use Rattle.cell_cover.proofs.rows.at_least_zero.Given as goal

abbrev pub invariant-loop-i : goal.invariant-loop-i
invariant-loop-i l = MappedTo (greater_of (whole (pos 0))) (row_of l.count l.entries) l.made l.i
