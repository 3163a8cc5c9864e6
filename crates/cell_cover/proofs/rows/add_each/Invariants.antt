use Rattle.std.proofs.Common.{zip}
use Rattle.exact_num.specs.Fraction.{Fraction}
use Rattle.frac.specs.Range.{limit}
use Rattle.frac.specs.Value.{fraction_of}
use Rattle.cell_cover.specs.Rows.{row_of, sign_as}
use Rattle.cell_cover.specs.Walk.{add_signed}
use Rattle.cell_cover.proofs.RowLoops.{MadeTo}
use Rattle.cell_cover.proofs.rows.add_each.Given as goal

abbrev pub invariant-loop-i : goal.invariant-loop-i
invariant-loop-i l =
    MadeTo (λ (p : Fraction × Fraction). add_signed limit (sign_as l.sign) p.0 (fraction_of l.by) p.1) (zip (row_of l.count l.totals) (row_of l.count l.entries)) l.made l.i
