use Rattle.std.proofs.Common.{◌*◌, [], length, slice_index_or, arith, ◌∙◌, ap}
use Rattle.lists.specs.Rows.{Rows}
use Rattle.lists.proofs.Rows.{row_count, row_ends, cut-at}
use Rattle.lists.proofs.Lists.{length-part}
use Rattle.lists.proofs.arena.RowArena.row.Goals as goal

pub overflow_mul-i : goal.overflow_mul-i
overflow_mul-i g c =
    let s = c.self.inside in
    let b = c.self.invariant.0 in
    let count = row_count s.width s.count s.spare s.block.numbers c.args.self.now c.self.view_is in
    let ends = row_ends c.args.i s.count s.width (length s.block.numbers) (omega (arith, c.requires, count)) b.rows in
    record { fits = omega (arith, ends, b.small) }

pub slice-requires : goal.slice-requires
slice-requires g c =
    let s = c.self.inside in
    let b = c.self.invariant.0 in
    let count = row_count s.width s.count s.spare s.block.numbers c.args.self.now c.self.view_is in
    (omega (arith, b.some), row_ends c.args.i s.count s.width (length s.block.numbers) (omega (arith, c.requires, count)) b.rows)

pub returns-clause-row : goal.returns-clause-row
returns-clause-row g c =
    let s = c.self.inside in
    let count = row_count s.width s.count s.spare s.block.numbers c.args.self.now c.self.view_is in
    c.slice.ensures ∙ cut-at s.width c.args.i s.count s.block.numbers (omega (arith, c.requires, count)) ∙ ap (λ (r : Rows g.row.N.Denot). slice_index_or r.rows c.args.i []) c.self.view_is

pub returns-clause-width : goal.returns-clause-width
returns-clause-width g c =
    let s = c.self.inside in
    let count = row_count s.width s.count s.spare s.block.numbers c.args.self.now c.self.view_is in
    let ends = row_ends c.args.i s.count s.width (length s.block.numbers) (omega (arith, c.requires, count)) c.self.invariant.0.rows in
    ap length c.slice.ensures ∙ length-part (c.args.i * s.width) s.width s.block.numbers ends ∙ ap (λ (r : Rows g.row.N.Denot). r.width) c.self.view_is
