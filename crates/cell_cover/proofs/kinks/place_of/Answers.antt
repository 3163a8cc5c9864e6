use Rattle.std.proofs.Common.{◌≡◌, ◌+◌, drop, true, false, sym, ◌∙◌, arith}
use Rattle.arithmetic.proofs.Lists.{drop_map}
use Rattle.cell_cover.specs.Rows.{row_of}
use Rattle.cell_cover.specs.Rowed.{is_same_row, row_in, row_index, rows_in}
use Rattle.cell_cover.proofs.Rowing.{index_here, index_on}
use Rattle.cell_cover.proofs.kinks.place_of.Goals as goal

pub returns-then-is_same_row : goal.returns-then-is_same_row
returns-then-is_same_row c =
    let n = c.args.count in
    let u = row_of n c.args.entries.now in
    let rows = rows_in n c.args.classes.now in
    let place = c.loop-place.place in
    let class = c.index-classes-place.result in
    let first = drop_map (row_in n) c.args.classes.now place class c.loop-place-test.true c.index-classes-place.is in
    let inv : row_index u rows ≡ place + row_index u (drop place rows) = c.loop-place.invariant in
    let same : is_same_row u (row_in n class) ≡ true = sym c.is_same_row.ensures ∙ c.if-is_same_row.true in
    omega (arith, inv, index_here u (row_in n class) (drop place rows) (drop (place + 1) rows) first same)

pub loop-place-preserved : goal.loop-place-preserved
loop-place-preserved c =
    let n = c.args.count in
    let u = row_of n c.args.entries.now in
    let rows = rows_in n c.args.classes.now in
    let place = c.loop-place.place in
    let class = c.index-classes-place.result in
    let first = drop_map (row_in n) c.args.classes.now place class c.loop-place-test.true c.index-classes-place.is in
    let inv : row_index u rows ≡ place + row_index u (drop place rows) = c.loop-place.invariant in
    let other : is_same_row u (row_in n class) ≡ false = sym c.is_same_row.ensures ∙ c.if-is_same_row.false in
    let next = index_on u (row_in n class) (drop place rows) (drop (place + 1) rows) first other in
    let wanted : row_index u rows ≡ (place + 1) + row_index u (drop (place + 1) rows) = omega (arith, inv, next) in
    wanted
