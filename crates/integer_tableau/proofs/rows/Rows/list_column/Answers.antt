use Rattle.std.proofs.Common.{◌≡◌, ◌<◌, ◌∙◌, sym, ap, arith, ℕ, ℤ, ◌+◌, List, length, map, ◌++◌, drop, take, pos, slice_index_or, rules, FitsSigned, w64}
use Rattle.std.proofs.lemmas.Int.{to_z-of_z}
use Rattle.std.proofs.lemmas.List.{get_or_default, length-map}
use Rattle.exact_num.specs.Fraction.{whole}
use Rattle.fraction_tableau.specs.Nonzero.{nonzero_from}
use Rattle.fraction_tableau.proofs.Nonzero.{all_taken}
use Rattle.run_equivalence.specs.IntegerRows.{number_at}
use Rattle.integer_tableau.specs.Rows.{column_in}
use Rattle.integer_tableau.proofs.Sparse.{place_more}
use Rattle.integer_tableau.proofs.Listed.{column_number}
use Rattle.integer_tableau.proofs.Written.{column_by_signs}
use Rattle.integer_tableau.proofs.rows.Rows.list_column.Goals as goal

pub loop-i-preserved : goal.loop-i-preserved
loop-i-preserved c =
    let rows = c.args.self.now.short.rows in
    let zs = column_in c.args.c rows in
    let i = c.loop-i.i in
    let z = slice_index_or c.row.result.now (c.args.c + 1) (pos 0) in
    let fits : FitsSigned w64 z = search rules in
    let low : i < length zs = omega (arith, c.loop-i-test.true, c.len-i-end.ensures, length-map rows (λ row. number_at row (c.args.c + 1))) in
    let at_z : z ≡ slice_index_or zs i z = ap (λ (x : List ℤ). number_at x (c.args.c + 1)) c.row.ensures.row ∙ sym (column_number c.args.c rows i) ∙ get_or_default zs i (pos 0) z low in
    let inv = c.loop-i.invariant in
    let listed = simp to_z-of_z at c.list_place-count.ensures.places in
    record {
      places = ap (λ (l : List ℕ). l ++ nonzero_from (i + 1) (drop (i + 1) (map whole zs))) listed ∙ place_more zs i z (take c.loop-i.count c.loop-i.places) _ low at_z inv.places;
      few = omega (arith, c.list_place-count.ensures.more, inv.few);
      room = c.list_place-count.auto.places ∙ inv.room;
    }

pub returns-clause-places : goal.returns-clause-places
returns-clause-places c =
    let t = c.args.self.now in
    let rows = t.short.rows in
    let listed = all_taken whole (column_in c.args.c rows) c.loop-i.i (take c.loop-i.count c.loop-i.places) _ (omega (arith, c.loop-i-test.false, c.len-i-end.ensures, length-map rows (λ row. number_at row (c.args.c + 1)))) c.loop-i.invariant.places in
    let stored = c.requires.stored in
    listed ∙ column_by_signs stored.1 c.args.c t stored.2 (omega (arith, t.wide_count)) stored.3.rows
