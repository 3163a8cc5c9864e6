use Rattle.std.proofs.Common.{zip}
use Rattle.exact_num.specs.Fraction.{Fraction}
use Rattle.exact_num.specs.Tests.{greater_of}
use Rattle.cell_cover.specs.Rows.{row_of}
use Rattle.cell_cover.proofs.RowLoops.{MappedTo}
use Rattle.cell_cover.proofs.rows.greater_each.Given as goal

abbrev pub invariant-loop-i : goal.invariant-loop-i
invariant-loop-i l = MappedTo (λ (p : Fraction × Fraction). greater_of p.0 p.1) (zip (row_of l.count l.first) (row_of l.count l.second)) l.made l.i
