use Rattle.std.proofs.Common.{◌≡◌, ◌≤◌, length, map, take, Ok, arith, sym, ap, ◌∙◌}
use Rattle.std.proofs.lemmas.Result.{err_from_is_err_and}
use Rattle.frac.specs.Value.{fraction_of}
use Rattle.cell_cover.proofs.RowLoops.{zip_next, zip_length, made_more, made_stop, made_end}
use Rattle.cell_cover.proofs.rows.add_each.Goals as goal

pub returns-in_err-made : goal.returns-in_err-made
returns-in_err-made c =
    let p = err_from_is_err_and c.from_residual.result c.from_residual.ensures.1 in
    let totals = c.args.totals.now in
    let entries = c.args.entries.now in
    let le : c.args.count ≤ length totals.entries = omega (arith, totals.nine_entries, c.requires) in
    let le2 : c.args.count ≤ length entries.entries = omega (arith, entries.nine_entries, c.requires) in
    let here = zip_next fraction_of totals.entries entries.entries c.args.count c.loop-i.i c.index-totals-i.result c.index-entries-i.result c.loop-i-test.true le le2 in
    rw (p.1, p.2) (sym (made_stop _ _ _ _ _ c.in_err-made.field-0.0 c.loop-i.invariant here (sym c.in_err-made.ensures)))

pub loop-i-preserved : goal.loop-i-preserved
loop-i-preserved c =
    let totals = c.args.totals.now in
    let entries = c.args.entries.now in
    let le : c.args.count ≤ length totals.entries = omega (arith, totals.nine_entries, c.requires) in
    let le2 : c.args.count ≤ length entries.entries = omega (arith, entries.nine_entries, c.requires) in
    let here = zip_next fraction_of totals.entries entries.entries c.args.count c.loop-i.i c.index-totals-i.result c.index-entries-i.result c.loop-i-test.true le le2 in
    made_more _ _ c.loop-i.made c.loop-i.i _ c.in_ok-made.field-0 c.loop-i.invariant here (omega (arith, c.loop-i-test.true, c.requires)) (sym c.in_ok-made.ensures)

pub returns : goal.returns
returns c =
    let totals = c.args.totals.now in
    let entries = c.args.entries.now in
    let e : c.loop-i.i ≡ c.args.count = omega (arith, c.loop-i-test.false, c.loop-i.auto.i-end) in
    sym (made_end _ _ c.loop-i.made c.loop-i.i c.loop-i.invariant (omega (arith, zip_length fraction_of totals.entries entries.entries c.args.count)) ∙ ap (λ k. Ok (map fraction_of (take k c.loop-i.made))) e)
