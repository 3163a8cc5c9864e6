use Rattle.std.proofs.Common.{◌≡◌, ◌<◌, ◌+◌, ◌∙◌, sym, ap, arith, length}
use Rattle.std.proofs.lemmas.List.{length-map}
use Rattle.exact_num.specs.Fraction.{negated}
use Rattle.simplex_run.specs.Places.{at}
use Rattle.fraction_tableau.specs.Labels.{as_column}
use Rattle.fraction_tableau.specs.Tables.{as_table, lists_of}
use Rattle.fraction_tableau.specs.Lists.{front}
use Rattle.fraction_tableau.proofs.ArenaSteps.{at_fronts}
use Rattle.fraction_tableau.proofs.Reading.{at_front, basic_found, basic_missing, entry_other}
use Rattle.fraction_tableau.proofs.table.Table.direction_at.Goals as goal

pub returns-in-None : goal.returns-in-None
returns-in-None g c =
    let value = g.N.Exact.fraction in
    let t = c.args.self.now in
    c.zero.ensures
    ∙ sym (
    entry_other (as_column c.args.column) c.args.j (as_table value t) c.if-j-column.false
    ∙ basic_missing _ c.args.j t.basics.items (lists_of value t) c.in-None.ensures
    )

pub returns-in-Some : goal.returns-in-Some
returns-in-Some g c =
    let value = g.N.Exact.fraction in
    let t = c.args.self.now in
    let h = c.args.column.place in
    let i = c.in-Some.i in
    let w = length t.labels.items + 1 in
    let row = c.row.result.now in
    let same : length t.basics.items ≡ length (lists_of value t) = omega (arith, length-map t.rows.rows (front value (length t.labels.items + 1)), t.count, t.basics.ok) in
    let inside : h < length row = omega (arith, c.row.ensures.width, t.width, t.columns, t.labels.ok, c.requires) in
    let entries = at_fronts value w t.rows.rows i ∙ ap (λ xs. front value w xs) (sym c.row.ensures.row) in
    c.neg.ensures
    ∙ sym (
    entry_other (as_column c.args.column) c.args.j (as_table value t) c.if-j-column.false
    ∙ basic_found (λ r. negated (at r.entries h)) c.args.j t.basics.items (lists_of value t) i same c.in-Some.ensures
    ∙ ap (λ xs. negated (at xs h)) entries
    ∙ ap negated (at_front value w row h c.index-row-column.result (omega (arith, c.requires)) inside c.index-row-column.is)
    )
