use Rattle.std.proofs.Common.{◌≡◌, ◌<◌, ◌≤◌, [], ◌∙◌, sym, ap, refl, subst, arith, true, Bool, length, set, ℕ, List, ℤ}
use Rattle.std.proofs.lemmas.List.{map-id}
use Rattle.lists.proofs.Lists.{refit_is}
use Rattle.fraction_tableau.proofs.ArenaSteps.{at_set_same}
use Rattle.run_equivalence.specs.IntegerRows.{row_size}
use Rattle.integer_tableau.specs.Eliminating.{IsEliminatedBy}
use Rattle.integer_tableau.specs.Rows.{row_in, row_at}
use Rattle.integer_tableau.specs.Stored.{rows_in}
use Rattle.integer_tableau.specs.declared.mix.PivotRow.{PivotRow}
use Rattle.integer_tableau.proofs.Changed.{changed_at}
use Rattle.integer_tableau.proofs.Eliminating.{eliminated_at}
use Rattle.integer_tableau.proofs.Standing.{pivot_words, read_short, read_wide}
use Rattle.integer_tableau.proofs.Stored.{put, stays}
use Rattle.integer_tableau.proofs.rows.Rows.mix_wide_row.Goals.{then-index, else-index}
use Rattle.integer_tableau.proofs.rows.Rows.mix_wide_row.Goals as goal

-- row i of those of 128 bits is mixed
record IsMixed (k : PivotRow) (w i : ℕ) (pivot x : List ℤ) (passed : Bool) (old new : List (List ℤ)) (size : ℕ) : Type 0 where
  rows : new ≡ set old i (row_at new i)
  eliminated : passed ≡ true → IsEliminatedBy k (row_in w pivot).numbers (row_in w x) (row_in w (row_at new i))
  small : passed ≡ true → row_size (row_in w (row_at new i)) ≤ size

mixed_by : (k : PivotRow) (w i : ℕ) (pivot x : List ℤ) (passed : Bool) (old new : List (List ℤ)) (ys : List ℤ) (size : ℕ) → i < length old → new ≡ set old i ys → (passed ≡ true → IsEliminatedBy k (row_in w pivot).numbers (row_in w x) (row_in w ys))
    → (passed ≡ true → row_size (row_in w ys) ≤ size) → IsMixed k w i pivot x passed old new size
mixed_by k w i pivot x passed old new ys size low is told small =
    let here : row_at new i ≡ ys = ap (λ (s : List (List ℤ)). row_at s i) is ∙ at_set_same old i ys [] low in
    record {
      rows = is ∙ ap (set old i) (sym here);
      eliminated = λ e. subst (λ (z : List ℤ). IsEliminatedBy k (row_in w pivot).numbers (row_in w x) (row_in w z)) (sym here) (told e);
      small = λ e. subst (λ (z : List ℤ). row_size (row_in w z) ≤ size) (sym here) (small e);
    }

pub eliminate_wide_front-is_eliminated-requires-clause-pivot : goal.eliminate_wide_front-is_eliminated-requires-clause-pivot
eliminate_wide_front-is_eliminated-requires-clause-pivot c =
    let t = c.args.self.now in
    let k = c.args.known in
    pivot_words k c.args.width t c.pair-row.result.0.now c.requires.pivot (read_wide t k.step.r _ _ c.requires.pivot.row c.index-2.ensures c.if-index.true c.pair-row.ensures.parts.0)

pub eliminate_wide_front-is_eliminated-requires-else-index-clause-pivot : goal.eliminate_wide_front-is_eliminated-requires-else-index-clause-pivot
eliminate_wide_front-is_eliminated-requires-else-index-clause-pivot c =
    let t = c.args.self.now in
    let k = c.args.known in
    pivot_words k c.args.width t c.row-pivot.result.now c.requires.pivot (read_short t k.step.r _ _ c.requires.pivot.row c.index-2.ensures c.if-index.false c.row-pivot.ensures.row)

pub returns : goal.returns
returns c =
    let t = c.args.self.now in
    let k = c.args.known in
    let w = c.args.width in
    let i = c.args.i in
    let x = row_at t.wide.rows i in
    let P = row_at (rows_in t) k.step.r in
    let s = c.if-index.self in
    let low : i < length t.wide.rows = omega (arith, c.requires.rows.0, t.wide_count) in
    let mixed : IsMixed k w i P x c.if-index.is_eliminated t.wide.rows s.1.1.0.rows c.if-index.size = elim c.if-index.branch [
      | then-index b ↦
          (let told = b.eliminate_wide_front-is_eliminated.ensures in
          let ys = b.eliminate_wide_front-is_eliminated.new.row in
          let full : length ys ≡ t.wide.width = omega (arith, b.pair-row.ensures.widths, b.eliminate_wide_front-is_eliminated.auto.row) in
          let there = read_wide t k.step.r _ _ c.requires.pivot.row c.index-2.ensures b.if-index.true b.pair-row.ensures.parts.0 in
          mixed_by k w i P x c.if-index.is_eliminated t.wide.rows s.1.1.0.rows ys c.if-index.size low (ap (λ s. s.1.1.0.rows) b.self-is ∙ ap (set t.wide.rows i) (refit_is t.wide.width x ys full))
          (λ e. eliminated_at k w _ _ _ _ _ _ (map-id b.pair-row.result.0.now ∙ sym there) (ap (row_in w) b.pair-row.ensures.parts.1) refl (told.eliminated (sym b.is_eliminated-is ∙ e)))
          (λ e. subst (λ (n : ℕ). row_size (row_in w ys) ≤ n) (sym b.size-is) (told.size (sym b.is_eliminated-is ∙ e))))
      | else-index b ↦
          (let told = b.eliminate_wide_front-is_eliminated-else-index.ensures in
          let ys = b.eliminate_wide_front-is_eliminated-else-index.new.row in
          let full : length ys ≡ t.wide.width = omega (arith, b.row_mut.ensures.width, b.eliminate_wide_front-is_eliminated-else-index.auto.row) in
          let here = read_short t k.step.r _ _ c.requires.pivot.row c.index-2.ensures b.if-index.false b.row-pivot.ensures.row in
          mixed_by k w i P x c.if-index.is_eliminated t.wide.rows s.1.1.0.rows ys c.if-index.size low (ap (λ s. s.1.1.0.rows) b.self-is ∙ ap (set t.wide.rows i) (refit_is t.wide.width x ys full))
          (λ e. eliminated_at k w _ _ _ _ _ _ (map-id b.row-pivot.result.now ∙ sym here) (ap (row_in w) b.row_mut.ensures.row) refl (told.eliminated (sym b.is_eliminated-is ∙ e)))
          (λ e. subst (λ (n : ℕ). row_size (row_in w ys) ≤ n) (sym b.size-is) (told.size (sym b.is_eliminated-is ∙ e))))
    ] in
    let inside : i < length t.sizes.items = omega (arith, c.requires.rows.0, t.sizes_count, t.sizes.ok) in
    let short : s.1.0 ≡ t.short = elim c.if-index.branch [
      | then-index b ↦ ap (λ s. s.1.0) b.self-is
      | else-index b ↦ ap (λ s. s.1.0) b.self-is
    ] in
    record {
      eliminated = mixed.eliminated;
      size = λ done. subst (λ (n : ℕ). row_size (row_in w (row_at s.1.1.0.rows i)) ≤ n) (sym (at_set_same t.sizes.items i c.if-index.size 0 inside)) (mixed.small done);
      wide = c.requires.wide;
      changed = changed_at (stays refl) (put _ refl) (stays (ap (λ a. a.rows) short)) (put _ mixed.rows) (ap (λ a. a.spare) short) (ap (λ a. a.width) short);
    }
