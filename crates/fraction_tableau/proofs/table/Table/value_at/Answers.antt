use Rattle.std.proofs.Common.{◌≡◌, ◌<◌, ◌+◌, ◌∙◌, sym, ap, arith, length}
use Rattle.std.specs.Prelude.{slice_index_or}
use Rattle.std.proofs.lemmas.List.{length-map}
use Rattle.simplex_run.specs.Places.{at}
use Rattle.simplex_run.specs.Table.{right_side}
use Rattle.fraction_tableau.specs.Lists.{front}
use Rattle.fraction_tableau.specs.Tables.{lists_of}
use Rattle.fraction_tableau.proofs.ArenaSteps.{at_fronts}
use Rattle.fraction_tableau.proofs.Reading.{at_front, basic_found, basic_missing}
use Rattle.fraction_tableau.proofs.table.Table.value_at.Goals as goal

pub returns-in-None : goal.returns-in-None
returns-in-None g c = c.zero.ensures ∙ sym (basic_missing _ c.args.j c.args.self.now.basics.items (lists_of g.N.Exact.fraction c.args.self.now) c.in-None.ensures)

pub returns-in-Some : goal.returns-in-Some
returns-in-Some g c =
    let value = g.N.Exact.fraction in
    let t = c.args.self.now in
    let n = length t.labels.items in
    let i = c.in-Some.i in
    let row = c.row.result.now in
    let count : c.len.result ≡ n = omega (arith, c.len.ensures, t.labels.ok) in
    let same : length t.basics.items ≡ length (lists_of value t) = omega (arith, length-map t.rows.rows (front value (length t.labels.items + 1)), t.count, t.basics.ok) in
    let inside : n < length row = omega (arith, c.row.ensures.width, t.width, t.columns, t.labels.ok) in
    let entries = at_fronts value (n + 1) t.rows.rows i ∙ ap (λ xs. front value (n + 1) xs) (sym c.row.ensures.row) in
    let here = c.index-row-len.is ∙ ap (λ k. slice_index_or row k c.index-row-len.result) count in
    sym (
    basic_found (λ r. right_side n r.entries) c.args.j t.basics.items (lists_of value t) i same c.in-Some.ensures
    ∙ ap (λ xs. at xs n) entries
    ∙ at_front value (n + 1) row n c.index-row-len.result (omega arith) inside here
    )
