use Rattle.std.proofs.Common.{◌≡◌, ◌<◌, ◌∙◌, sym, ap, arith, length}
use Rattle.std.proofs.lemmas.List.{length-map}
use Rattle.run_equivalence.specs.IntegerRows.{IntegerRow, entry_of, no_integer_row}
use Rattle.integer_tableau.specs.Rows.{row_in, integer_rows_in, row_at}
use Rattle.integer_tableau.specs.Stored.{rows_in}
use Rattle.integer_tableau.proofs.Stored.{rows_count}
use Rattle.integer_tableau.specs.Tables.{width_of}
use Rattle.fraction_tableau.proofs.Reading.{place_inside}
use Rattle.integer_tableau.proofs.Choosing.{row_place}
use Rattle.integer_tableau.proofs.ReadOff.{basic_found, basic_missing}
use Rattle.integer_tableau.proofs.table.WholeTable.value_at.Goals as goal

pub returns-in-None : goal.returns-in-None
returns-in-None g c =
    let t = c.args.self.now in
    c.zero.ensures ∙ sym (basic_missing _ c.args.j t.basics.items (integer_rows_in (width_of t) (rows_in t.rows)) c.in-None.ensures)

pub returns-in-Some : goal.returns-in-Some
returns-in-Some g c =
    let t = c.args.self.now in
    let n = length t.labels.items in
    let i = c.in-Some.i in
    let lines = integer_rows_in (width_of t) (rows_in t.rows) in
    let count : c.len.result ≡ n = omega (arith, c.len.ensures, t.labels.ok) in
    let same : length t.basics.items ≡ length lines = omega (arith, length-map (rows_in t.rows) (row_in (width_of t)), t.count, t.basics.ok, rows_count t.rows.is_wide.items t.rows.short.rows t.rows.wide.rows) in
    let inside = place_inside c.args.j t.basics.items i c.in-Some.ensures in
    let low : i < length (rows_in t.rows) = omega (arith, inside, t.count, t.basics.ok, rows_count t.rows.is_wide.items t.rows.short.rows t.rows.wide.rows) in
    c.entry.ensures
    ∙ ap (entry_of (row_in (width_of t) (row_at (rows_in t.rows) i))) count
    ∙ sym (
    basic_found (λ r. entry_of r.line n) c.args.j t.basics.items lines i no_integer_row same c.in-Some.ensures
    ∙ ap (λ (l : IntegerRow). entry_of l n) (row_place (width_of t) (rows_in t.rows) i no_integer_row low)
    )
