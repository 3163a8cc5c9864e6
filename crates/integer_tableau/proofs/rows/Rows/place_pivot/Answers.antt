use Rattle.std.proofs.Common.{rules, ◌-◌, ◌^◌, ◌<◌, sym, subst, arith, unsigned_abs}
use Rattle.run_equivalence.specs.IntegerRows.{IntegerRow, IsIntegerRow, number_at}
use Rattle.run_equivalence.specs.WholePivoting.{cut}
use Rattle.run_equivalence.proofs.IntegerRowSteps.{cut_within}
use Rattle.run_equivalence.proofs.PivotSteps.{size_above, cut_above}
use Rattle.integer_tableau.specs.Rows.{row_in, row_at}
use Rattle.integer_tableau.specs.Stored.{rows_in}
use Rattle.integer_tableau.proofs.Standing.{rows_many}
use Rattle.integer_tableau.proofs.Written.{written_then}
use Rattle.integer_tableau.proofs.rows.Rows.place_pivot.Goals as goal

pub cut_row-requires-clause-row : goal.cut_row-requires-clause-row
cut_row-requires-clause-row c = omega (arith, c.requires.pivot.row, rows_many c.args.self.now)

pub exchange_row-a-requires-clause-row : goal.exchange_row-a-requires-clause-row
exchange_row-a-requires-clause-row c = omega (arith, c.requires.pivot.row, rows_many c.args.self.now, c.cut_row.ensures.written.count.count)

pub exchange_row-a-requires-clause-line : goal.exchange_row-a-requires-clause-line
exchange_row-a-requires-clause-line c =
    subst (IsIntegerRow (2 ^ 127 - 1) c.args.width) (sym c.cut_row.ensures.line) (cut_within (2 ^ 127 - 1) c.args.width (row_in c.args.width (row_at (rows_in c.args.self.now) c.args.r)) c.requires.line)

pub exchange_row-a-requires-clause-above : goal.exchange_row-a-requires-clause-above
exchange_row-a-requires-clause-above c =
    let x = row_in c.args.width (row_at (rows_in c.args.self.now) c.args.r) in
    subst (λ (l : IntegerRow). 0 < unsigned_abs (number_at l.numbers c.args.c)) (sym c.cut_row.ensures.line)
    (size_above (number_at (cut x).numbers c.args.c) (cut_above x c.args.c c.requires.line.positive c.requires.pivot.above)).1

pub size_anew-requires-clause-row : goal.size_anew-requires-clause-row
size_anew-requires-clause-row c =
    omega (arith, c.requires.pivot.row, rows_many c.args.self.now, c.cut_row.ensures.written.count.count, c.exchange_row-a.ensures.written.count.count)

pub returns : goal.returns
returns c =
    let first = c.args.self.now in
    let cut_rows = c.cut_row.new.self in
    let exchanged = c.exchange_row-a.new.self in
    let before = written_then c.args.width c.args.r first cut_rows exchanged c.cut_row.ensures.written c.exchange_row-a.ensures.written in
    record {
      line = search rules;
      denominator = search rules;
      size = search rules;
      short = search rules;
      written = written_then c.args.width c.args.r first exchanged c.size_anew.new.self before c.size_anew.ensures.written;
    }
