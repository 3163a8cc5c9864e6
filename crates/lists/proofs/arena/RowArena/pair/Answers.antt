use Rattle.std.proofs.Common.{ℕ, ◌+◌, ◌*◌, ◌<◌, List, [], length, slice_index_or, arith, refl, sym, ◌∙◌, ap, subst}
use Rattle.lists.specs.Rows.{Rows, IsBlock}
use Rattle.lists.specs.Lending.{with_row}
use Rattle.lists.proofs.Lists.{length-part, length-with_part}
use Rattle.lists.proofs.Rows.{row_count, row_ends, cut-at, cut-with, apart_rows}
use Rattle.lists.proofs.arena.RowArena.pair.Goals as goal

pub overflow_mul-read : goal.overflow_mul-read
overflow_mul-read g c =
    let s = c.self.inside in
    let b = c.self.invariant.0 in
    let count = row_count s.width s.count s.spare s.block.numbers c.args.self.now c.self.view_is in
    let ends = row_ends c.args.read s.count s.width (length s.block.numbers) (omega (arith, c.requires.inside.0, count)) b.rows in
    record { fits = omega (arith, ends, b.small) }

pub overflow_mul-write : goal.overflow_mul-write
overflow_mul-write g c =
    let s = c.self.inside in
    let b = c.self.invariant.0 in
    let count = row_count s.width s.count s.spare s.block.numbers c.args.self.now c.self.view_is in
    let ends = row_ends c.args.write s.count s.width (length s.block.numbers) (omega (arith, c.requires.inside.1, count)) b.rows in
    record { fits = omega (arith, ends, b.small) }

pub pair-requires : goal.pair-requires
pair-requires g c =
    let s = c.self.inside in
    let b = c.self.invariant.0 in
    let count = row_count s.width s.count s.spare s.block.numbers c.args.self.now c.self.view_is in (
      omega (arith, b.some),
      row_ends c.args.read s.count s.width (length s.block.numbers) (omega (arith, c.requires.inside.0, count)) b.rows,
      row_ends c.args.write s.count s.width (length s.block.numbers) (omega (arith, c.requires.inside.1, count)) b.rows,
      apart_rows c.args.read c.args.write s.width c.requires.apart,
    )

pub invariant_of-self-lent : goal.invariant_of-self-lent
invariant_of-self-lent g c = λ w.
    let s = c.self.inside in
    let b = c.self.invariant.0 in
    let count = row_count s.width s.count s.spare s.block.numbers c.args.self.now c.self.view_is in
    let ends = row_ends c.args.write s.count s.width (length s.block.numbers) (omega (arith, c.requires.inside.1, count)) b.rows in
    (subst (λ n. IsBlock s.width s.count s.spare n (n + s.block.spare)) (sym (length-with_part (c.args.write * s.width) s.width s.block.numbers w ends)) b, c.self.invariant.1)

pub returns : goal.returns
returns g c =
    let s = c.self.inside in
    let b = c.self.invariant.0 in
    let count = row_count s.width s.count s.spare s.block.numbers c.args.self.now c.self.view_is in
    let here : c.args.read < s.count = omega (arith, c.requires.inside.0, count) in
    let there : c.args.write < s.count = omega (arith, c.requires.inside.1, count) in
    let row = λ (i : ℕ). ap (λ (r : Rows g.row.N.Denot). slice_index_or r.rows i []) c.self.view_is in
    let width = λ (i : ℕ) (h : i < s.count). length-part (i * s.width) s.width s.block.numbers (row_ends i s.count s.width (length s.block.numbers) h b.rows) ∙ ap (λ (r : Rows g.row.N.Denot). r.width) c.self.view_is in (
      (
        refl,
        λ w.
            ap (λ rows. record { rows = rows; width = s.width; spare = s.spare }) (cut-with s.width c.args.write s.count s.block.numbers w there b.rows)
            ∙ ap (λ (r : Rows g.row.N.Denot). with_row r c.args.write w) c.self.view_is,
      ),
      record {
        writes_back = tt;
        parts = (
          c.pair.ensures.parts.0 ∙ cut-at s.width c.args.read s.count s.block.numbers here ∙ row c.args.read,
          c.pair.ensures.parts.1 ∙ cut-at s.width c.args.write s.count s.block.numbers there ∙ row c.args.write,
        );
        widths = (
          ap (λ (l : List g.row.N.Denot). length l) c.pair.ensures.parts.0 ∙ width c.args.read here,
          ap (λ (l : List g.row.N.Denot). length l) c.pair.ensures.parts.1 ∙ width c.args.write there,
        );
      },
    )
