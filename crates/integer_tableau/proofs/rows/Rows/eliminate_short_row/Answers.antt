use Rattle.std.proofs.Common.{◌≡◌, ◌^◌, ◌<◌, ◌≤◌, ◌∙◌, refl, sym, ap, subst, arith, length, set, ℕ, ℤ, List}
use Rattle.lists.specs.Parts.{refit}
use Rattle.fraction_tableau.proofs.ArenaSteps.{at_set_same}
use Rattle.run_equivalence.specs.IntegerRows.{IsIntegerRow, IntegerRow, row_size, widest}
use Rattle.integer_tableau.specs.Eliminating.{IsKept, IsPivotRow}
use Rattle.integer_tableau.specs.Rows.{row_in, row_at}
use Rattle.integer_tableau.specs.Stored.{IsWrittenAt, rows_in}
use Rattle.integer_tableau.proofs.Changed.{changed_at, row_placed, size_there, stored_short, written, written_after}
use Rattle.integer_tableau.proofs.Eliminating.{eliminated_at, left_within}
use Rattle.integer_tableau.proofs.Standing.{row_standing_short}
use Rattle.integer_tableau.proofs.Stored.{put, row_short, stays}
use Rattle.integer_tableau.proofs.Turned.{row_below}
use Rattle.integer_tableau.proofs.rows.Rows.eliminate_short_row.Goals as goal

pub eliminate_front-requires-clause-pivot : goal.eliminate_front-requires-clause-pivot
eliminate_front-requires-clause-pivot c =
    let w = length c.args.room.now in
    let there = row_standing_short c.args.self.now c.args.known.step.r c.requires.short.1 ∙ sym c.pair-row.ensures.parts.0 in
    subst (λ (z : List ℤ). IsPivotRow c.args.known w (row_in w z).numbers) there c.requires.pivot.line

pub eliminate_front-requires-clause-short : goal.eliminate_front-requires-clause-short
eliminate_front-requires-clause-short c = c.requires.pivot.short c.requires.short.1

pub eliminate_front-requires-clause-line : goal.eliminate_front-requires-clause-line
eliminate_front-requires-clause-line c =
    let t = c.args.self.now in
    let w = length c.args.room.now in
    let i = c.args.i in
    let l = row_in w (row_at (rows_in t) i) in
    let here = row_standing_short t i c.requires.short.0 ∙ sym c.pair-row.ensures.parts.1 in
    let kept = size_there t i c.index.result.now c.requires.rows.0 c.index.ensures in
    let low = (c.requires.stored.short c.requires.short.0).0 in
    subst (λ (z : List ℤ). IsKept widest w c.index.result.now (row_in w z)) here
    (record { line = row_below c.args.known.step.limit widest w l c.requires.line low; size = subst (λ (n : ℕ). row_size l ≤ n) kept c.requires.stored.size })

-- the row in the room is within the limit
pub grow-requires-clause-denominator : goal.grow-requires-clause-denominator
grow-requires-clause-denominator c =
    let t = c.args.self.now in
    let k = c.args.known in
    let w = length c.args.room.now in
    let here = row_standing_short t c.args.i c.requires.short.0 ∙ sym c.pair-row.ensures.parts.1 in
    let there = row_standing_short t k.step.r c.requires.short.1 ∙ sym c.pair-row.ensures.parts.0 in
    let line = subst (λ (z : List ℤ). IsIntegerRow k.step.limit w (row_in w z)) here c.requires.line in
    let pivot = subst (λ (z : List ℤ). IsPivotRow k w (row_in w z).numbers) there c.requires.pivot.line in
    let low = (left_within k w _ _ _ pivot line c.in-Wide.ensures).below in
    omega (arith, low, c.requires.pivot.line.limit.1)

pub returns-in-Short : goal.returns-in-Short
returns-in-Short c =
    let t = c.args.self.now in
    let k = c.args.known in
    let w = length c.args.room.now in
    let i = c.args.i in
    let here = row_standing_short t i c.requires.short.0 ∙ sym c.pair-row.ensures.parts.1 in
    let there = row_standing_short t k.step.r c.requires.short.1 ∙ sym c.pair-row.ensures.parts.0 in
    let x = row_at t.short.rows i in
    let y = c.eliminate_front.new.row in
    let full : length y ≡ t.short.width = omega (arith, c.pair-row.ensures.widths, c.eliminate_front.auto.row) in
    let size = c.eliminate_front.new.size in
    let kept = at_set_same t.sizes.items i size 0 (omega arith) in
    let made = row_at (set t.short.rows i (refit t.short.width x y)) i in
    let is : row_in w y ≡ row_in w made = sym (ap (row_in w) (row_placed t.short.width i t.short.rows x y c.requires.rows.0 full)) in
    let standing = row_short t.is_wide.items (set t.short.rows i (refit t.short.width x y)) t.wide.rows i c.requires.short.0 in
    let is_written = written w i t _ (changed_at (stays refl) (put _ refl) (put _ refl) (stays refl) refl refl)
    (stored_short w i _ c.requires.short.0
    (subst (λ (n : ℕ). row_size (row_in w made) ≤ n) (sym kept) (subst (λ (m : IntegerRow). row_size m ≤ size) is c.in-Short.ensures.1.size)) (subst (λ (m : IntegerRow). row_size m ≤ widest) is c.in-Short.ensures.1.short)
    (subst (λ (n : ℕ). n < 2 ^ 64) (sym kept) (omega arith))) in
    record {
      eliminated = λ done. record { eliminated = eliminated_at k w _ _ _ _ _ _ (sym there) (sym (ap (row_in w) here)) (is ∙ sym (ap (row_in w) standing)) c.in-Short.ensures.0; written = is_written };
      count = is_written.count;
    }

pub returns-in-Wide : goal.returns-in-Wide
returns-in-Wide c =
    let t = c.args.self.now in
    let k = c.args.known in
    let w = length c.args.room.now in
    let i = c.args.i in
    let here = row_standing_short t i c.requires.short.0 ∙ sym c.pair-row.ensures.parts.1 in
    let there = row_standing_short t k.step.r c.requires.short.1 ∙ sym c.pair-row.ensures.parts.0 in
    let grown = row_at (rows_in c.grow.new.self) i in
    let count : length c.eliminate_front.new.room ≡ w = c.eliminate_front.auto.room in
    let is_written = subst (λ (n : ℕ). IsWrittenAt n i t c.grow.new.self) count
    (written_after (length c.eliminate_front.new.room) i t _ c.grow.new.self c.grow.ensures.written (changed_at (stays refl) (stays refl) (put _ refl) (stays refl) refl refl)) in
    let new = sym (sym (ap (λ (n : ℕ). row_in n grown) count) ∙ c.grow.ensures.line) in
    record {
      eliminated = λ done. record { eliminated = eliminated_at k w _ _ _ _ _ _ (sym there) (sym (ap (row_in w) here)) new c.in-Wide.ensures; written = is_written };
      count = is_written.count;
    }
