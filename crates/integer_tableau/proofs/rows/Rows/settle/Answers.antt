use Rattle.std.proofs.Common.{◌≤◌, arith}
use Rattle.run_equivalence.specs.IntegerRows.{row_size, widest}
use Rattle.integer_tableau.specs.Rows.{row_in, row_at}
use Rattle.integer_tableau.proofs.Changed.{size_there}
use Rattle.integer_tableau.proofs.Turned.{row_below}
use Rattle.integer_tableau.proofs.rows.Rows.settle.Goals as goal

pub narrow_row-requires-clause-line : goal.narrow_row-requires-clause-line
narrow_row-requires-clause-line c =
    let t = c.args.self.now in
    let w = c.args.width in
    let l = row_in w (row_at t.wide.rows c.args.i) in
    let kept = size_there t c.args.i c.index.result.now c.requires.row c.index.ensures in
    let small : row_size l ≤ widest = omega (arith, kept, c.requires.size, c.if-index-le-WIDEST.true) in
    row_below c.requires.line.0 widest w l c.requires.line.1 small
