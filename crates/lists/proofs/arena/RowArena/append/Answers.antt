use Rattle.std.proofs.Common.{suc, ◌≡◌, ◌+◌, ◌*◌, [], ◌∷◌, ◌++◌, length, take, arith, sym, ◌∙◌, ap}
use Rattle.lists.specs.Rows.{Rows, cut_rows}
use Rattle.lists.proofs.Rows.{cut-more}
use Rattle.lists.proofs.arena.RowArena.append.Goals as goal

pub returns-clause-rows : goal.returns-clause-rows
returns-clause-rows g c =
    let s = c.self.inside in
    let new = c.extend.new.self.numbers in
    let width : length c.args.row.now ≡ s.width = c.requires.width ∙ ap (λ (r : Rows g.row.N.Denot). r.width) (sym c.self.view_is) in
    let one : s.count + 1 ≡ suc s.count = omega arith in
    let more : take (s.count * s.width + s.width) new ≡ take (s.count * s.width) s.block.numbers ++ c.args.row.now =
    ap (λ m. take (s.count * s.width + m) new) (sym width) ∙ c.extend.ensures.numbers in
    ap (λ n. cut_rows s.width n new) one
    ∙ cut-more s.width s.count s.block.numbers new c.args.row.now c.self.invariant.0.rows width more
    ∙ ap (λ (r : Rows g.row.N.Denot). r.rows ++ c.args.row.now ∷ []) c.self.view_is
