use Rattle.std.proofs.Common.{◌≡◌, ◌<◌, ◌≤◌, ◌^◌, ◌∙◌, refl, sym, subst, arith, false, true, ℕ, ℤ, List}
use Rattle.fraction_tableau.proofs.ArenaSteps.{at_set_same}
use Rattle.run_equivalence.specs.IntegerRows.{row_size}
use Rattle.integer_tableau.specs.Rows.{row_in, row_at}
use Rattle.integer_tableau.specs.Stored.{is_wide_at, rows_in}
use Rattle.integer_tableau.proofs.Changed.{changed_at, written}
use Rattle.integer_tableau.proofs.Fronts.{size_of_front}
use Rattle.integer_tableau.proofs.Standing.{flag_there, row_standing_short, row_standing_wide}
use Rattle.integer_tableau.proofs.Stored.{put, stays}
use Rattle.integer_tableau.proofs.rows.Rows.size_anew.Goals.{then-index, else-index}
use Rattle.integer_tableau.proofs.rows.Rows.size_anew.Goals as goal

pub returns-clause-size : goal.returns-clause-size
returns-clause-size c =
    let t = c.args.self.now in
    let n = c.args.width in
    let i = c.args.i in
    elim c.if-index.branch [
      | then-index w ↦
          (let there = row_standing_wide t i c.requires.row (flag_there t i c.index.result.now true c.requires.row c.index.ensures w.if-index.true) in
          subst (λ (k : ℕ). row_size (row_in n (row_at (rows_in t) i)) ≤ k) (sym w.size-is)
          (subst (λ (z : List ℤ). row_size (row_in n z) ≤ w.wide_size-size.result) (w.row.ensures.row ∙ sym there) (size_of_front w.wide_size-size.result n w.row.result.now w.wide_size-size.ensures)))
      | else-index w ↦
          (let here = row_standing_short t i (flag_there t i c.index.result.now false c.requires.row c.index.ensures w.if-index.false) in
          subst (λ (k : ℕ). row_size (row_in n (row_at (rows_in t) i)) ≤ k) (sym w.size-is)
          (subst (λ (z : List ℤ). row_size (row_in n z) ≤ w.size_of.result) (w.row-else-index.ensures.row ∙ sym here) (size_of_front w.size_of.result n w.row-else-index.result.now w.size_of.ensures)))
    ]

pub returns-clause-written : goal.returns-clause-written
returns-clause-written c =
    let t = c.args.self.now in
    let n = c.args.width in
    let i = c.args.i in
    let size = c.if-index.size in
    let kept = at_set_same t.sizes.items i size 0 (omega arith) in
    let low : row_size (row_in n (row_at (rows_in t) i)) ≤ size =
    elim c.if-index.branch [
      | then-index w ↦
          (let there = row_standing_wide t i c.requires.row (flag_there t i c.index.result.now true c.requires.row c.index.ensures w.if-index.true) in
          subst (λ (k : ℕ). row_size (row_in n (row_at (rows_in t) i)) ≤ k) (sym w.size-is)
          (subst (λ (z : List ℤ). row_size (row_in n z) ≤ w.wide_size-size.result) (w.row.ensures.row ∙ sym there) (size_of_front w.wide_size-size.result n w.row.result.now w.wide_size-size.ensures)))
      | else-index w ↦
          (let here = row_standing_short t i (flag_there t i c.index.result.now false c.requires.row c.index.ensures w.if-index.false) in
          subst (λ (k : ℕ). row_size (row_in n (row_at (rows_in t) i)) ≤ k) (sym w.size-is)
          (subst (λ (z : List ℤ). row_size (row_in n z) ≤ w.size_of.result) (w.row-else-index.ensures.row ∙ sym here) (size_of_front w.size_of.result n w.row-else-index.result.now w.size_of.ensures)))
    ] in
    let small : is_wide_at t i ≡ false → size < 2 ^ 64 =
    elim c.if-index.branch [
      | then-index w ↦ (let wide = flag_there t i c.index.result.now true c.requires.row c.index.ensures w.if-index.true in λ (short : is_wide_at t i ≡ false). absurd cc)
      | else-index w ↦ (λ (_ : is_wide_at t i ≡ false). omega arith)
    ] in
    written n i t _
    (changed_at (stays refl) (put _ refl) (stays refl) (stays refl) refl refl)
    (record {
      size = subst (λ (k : ℕ). row_size (row_in n (row_at (rows_in t) i)) ≤ k) (sym kept) low;
      short = λ e. ((c.requires.stored.short e).0, subst (λ (k : ℕ). k < 2 ^ 64) (sym kept) (small e));
      signs = c.requires.stored.signs;
    })
