use Rattle.std.proofs.Common.{◌≡◌, ◌<◌, ◌∙◌, sym, ap, arith, length, neg_ℤ}
use Rattle.std.proofs.lemmas.List.{length-map}
use Rattle.exact_num.specs.Fraction.{negated, reduced}
use Rattle.run_equivalence.specs.IntegerRows.{IntegerRow, number_at, no_integer_row}
use Rattle.integer_tableau.specs.Rows.{row_in, integer_rows_in, row_at}
use Rattle.fraction_tableau.specs.Labels.{as_column}
use Rattle.integer_tableau.specs.Stored.{rows_in}
use Rattle.integer_tableau.proofs.Stored.{rows_count}
use Rattle.integer_tableau.specs.Tables.{as_whole, width_of}
use Rattle.run_equivalence.proofs.Multiples.{reduced_negated}
use Rattle.fraction_tableau.proofs.Reading.{place_inside}
use Rattle.integer_tableau.proofs.Choosing.{row_place}
use Rattle.integer_tableau.proofs.ReadOff.{basic_found, basic_missing, entry_other}
use Rattle.integer_tableau.proofs.table.WholeTable.direction_at.Goals as goal

pub returns-in-None : goal.returns-in-None
returns-in-None g c =
    let t = c.args.self.now in
    c.zero.ensures
    ∙ sym (
    entry_other (as_column c.args.column) c.args.j (as_whole t) c.if-j-column.false
    ∙ basic_missing _ c.args.j t.basics.items (integer_rows_in (width_of t) (rows_in t.rows)) c.in-None.ensures
    )

pub returns-in-Some : goal.returns-in-Some
returns-in-Some g c =
    let t = c.args.self.now in
    let i = c.in-Some.i in
    let k = c.args.column.place in
    let lines = integer_rows_in (width_of t) (rows_in t.rows) in
    let l = row_in (width_of t) (row_at (rows_in t.rows) i) in
    let same : length t.basics.items ≡ length lines = omega (arith, length-map (rows_in t.rows) (row_in (width_of t)), t.count, t.basics.ok, rows_count t.rows.is_wide.items t.rows.short.rows t.rows.wide.rows) in
    let inside = place_inside c.args.j t.basics.items i c.in-Some.ensures in
    let low : i < length (rows_in t.rows) = omega (arith, inside, t.count, t.basics.ok, rows_count t.rows.is_wide.items t.rows.short.rows t.rows.wide.rows) in
    let positive = (c.requires.within.rows.lines i low).positive in
    c.neg.ensures
    ∙ ap negated c.entry-step.ensures
    ∙ reduced_negated (number_at l.numbers k) l.denominator positive
    ∙ sym (
    entry_other (as_column c.args.column) c.args.j (as_whole t) c.if-j-column.false
    ∙ basic_found (λ r. reduced (neg_ℤ (number_at r.line.numbers k)) r.line.denominator) c.args.j t.basics.items lines i no_integer_row same c.in-Some.ensures
    ∙ ap (λ (m : IntegerRow). reduced (neg_ℤ (number_at m.numbers k)) m.denominator) (row_place (width_of t) (rows_in t.rows) i no_integer_row low)
    )
