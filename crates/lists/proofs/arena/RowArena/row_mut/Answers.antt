use Rattle.std.proofs.Common.{◌+◌, ◌*◌, ◌<◌, List, [], length, slice_index_or, arith, refl, sym, ◌∙◌, ap, subst}
use Rattle.lists.specs.Rows.{Rows, IsBlock}
use Rattle.lists.specs.Lending.{with_row}
use Rattle.lists.proofs.Lists.{length-part, length-with_part}
use Rattle.lists.proofs.Rows.{row_count, row_ends, cut-at, cut-with}
use Rattle.lists.proofs.arena.RowArena.row_mut.Goals as goal

pub overflow_mul-i : goal.overflow_mul-i
overflow_mul-i g c =
    let s = c.self.inside in
    let b = c.self.invariant.0 in
    let count = row_count s.width s.count s.spare s.block.numbers c.args.self.now c.self.view_is in
    let ends = row_ends c.args.i s.count s.width (length s.block.numbers) (omega (arith, c.requires, count)) b.rows in
    record { fits = omega (arith, ends, b.small) }

pub slice_mut-requires : goal.slice_mut-requires
slice_mut-requires g c =
    let s = c.self.inside in
    let b = c.self.invariant.0 in
    let count = row_count s.width s.count s.spare s.block.numbers c.args.self.now c.self.view_is in
    (omega (arith, b.some), row_ends c.args.i s.count s.width (length s.block.numbers) (omega (arith, c.requires, count)) b.rows)

pub invariant_of-self-lent : goal.invariant_of-self-lent
invariant_of-self-lent g c = λ w.
    let s = c.self.inside in
    let b = c.self.invariant.0 in
    let count = row_count s.width s.count s.spare s.block.numbers c.args.self.now c.self.view_is in
    let ends = row_ends c.args.i s.count s.width (length s.block.numbers) (omega (arith, c.requires, count)) b.rows in
    (subst (λ n. IsBlock s.width s.count s.spare n (n + s.block.spare)) (sym (length-with_part (c.args.i * s.width) s.width s.block.numbers w ends)) b, c.self.invariant.1)

pub returns : goal.returns
returns g c =
    let s = c.self.inside in
    let b = c.self.invariant.0 in
    let count = row_count s.width s.count s.spare s.block.numbers c.args.self.now c.self.view_is in
    let there : c.args.i < s.count = omega (arith, c.requires, count) in
    let ends = row_ends c.args.i s.count s.width (length s.block.numbers) there b.rows in (
      (
        refl,
        λ w.
            ap (λ rows. record { rows = rows; width = s.width; spare = s.spare }) (cut-with s.width c.args.i s.count s.block.numbers w there b.rows)
            ∙ ap (λ (r : Rows g.row.N.Denot). with_row r c.args.i w) c.self.view_is,
      ),
      record {
        writes_back = tt;
        row = c.slice_mut.ensures.part ∙ cut-at s.width c.args.i s.count s.block.numbers there ∙ ap (λ (r : Rows g.row.N.Denot). slice_index_or r.rows c.args.i []) c.self.view_is;
        width = ap (λ (l : List g.row.N.Denot). length l) c.slice_mut.ensures.part ∙ length-part (c.args.i * s.width) s.width s.block.numbers ends ∙ ap (λ (r : Rows g.row.N.Denot). r.width) c.self.view_is;
      },
    )
