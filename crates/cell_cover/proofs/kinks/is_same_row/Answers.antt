use Rattle.std.proofs.Common.{arith, sym, ◌∙◌}
use Rattle.std.proofs.lemmas.List.{drop_all}
use Rattle.frac.specs.Value.{fraction_of}
use Rattle.cell_cover.specs.Rows.{row_of}
use Rattle.cell_cover.proofs.RowLoops.{map_next, map_length}
use Rattle.cell_cover.proofs.Rowing.{rows_differ, rows_alike, rows_end}
use Rattle.cell_cover.proofs.kinks.is_same_row.Goals as goal

pub returns-then-not-is_same : goal.returns-then-not-is_same
returns-then-not-is_same c =
    let row = c.args.row.now in
    let other = c.args.other.now in
    let first = map_next fraction_of row.entries c.args.count c.loop-i.i c.index-row-i.result c.loop-i-test.true (omega (arith, row.nine_entries, c.requires)) in
    let second = map_next fraction_of other.entries c.args.count c.loop-i.i c.index-other-i.result c.loop-i-test.true (omega (arith, other.nine_entries, c.requires)) in
    sym (c.loop-i.invariant ∙ rows_differ _ _ _ _ _ _ first second (sym c.is_same.ensures ∙ c.if-not-is_same.true))

pub loop-i-preserved : goal.loop-i-preserved
loop-i-preserved c =
    let row = c.args.row.now in
    let other = c.args.other.now in
    let first = map_next fraction_of row.entries c.args.count c.loop-i.i c.index-row-i.result c.loop-i-test.true (omega (arith, row.nine_entries, c.requires)) in
    let second = map_next fraction_of other.entries c.args.count c.loop-i.i c.index-other-i.result c.loop-i-test.true (omega (arith, other.nine_entries, c.requires)) in
    c.loop-i.invariant ∙ rows_alike _ _ _ _ _ _ first second (sym c.is_same.ensures ∙ c.if-not-is_same.false)

pub returns : goal.returns
returns c =
    let row = row_of c.args.count c.args.row.now in
    let other = row_of c.args.count c.args.other.now in
    sym (c.loop-i.invariant ∙ rows_end _ _ (drop_all c.loop-i.i row (omega (arith, map_length fraction_of c.args.row.now.entries c.args.count, c.loop-i-test.false))) (drop_all c.loop-i.i other (omega (arith, map_length fraction_of c.args.other.now.entries c.args.count, c.loop-i-test.false))))
