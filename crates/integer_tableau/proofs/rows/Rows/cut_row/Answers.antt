use Rattle.std.proofs.Common.{◌≡◌, ◌<◌, ◌≤◌, ◌-◌, ◌^◌, ◌∙◌, refl, sym, ap, subst, arith, false, true, ℕ, ℤ, List, length, set, length-set}
use Rattle.lists.specs.Parts.{refit}
use Rattle.fraction_tableau.proofs.ArenaSteps.{at_set_same}
use Rattle.run_equivalence.specs.IntegerRows.{IsIntegerRow, IntegerRow, row_size, widest}
use Rattle.run_equivalence.specs.WholePivoting.{cut}
use Rattle.run_equivalence.proofs.IntegerRowSteps.{cut_within}
use Rattle.integer_tableau.specs.Rows.{row_in, row_at}
use Rattle.integer_tableau.specs.Stored.{rows_in, size_at}
use Rattle.integer_tableau.proofs.Changed.{changed_at, row_placed, stored_short, written, written_after}
use Rattle.integer_tableau.proofs.Fronts.{cut_size, size_of_front}
use Rattle.integer_tableau.proofs.Standing.{flag_there, row_standing_short, row_standing_wide}
use Rattle.integer_tableau.proofs.Stored.{row_short, row_wide, put, stays}
use Rattle.integer_tableau.proofs.Turned.{row_below}
use Rattle.integer_tableau.proofs.rows.Rows.cut_row.Goals as goal

pub cut_front-requires-clause-line : goal.cut_front-requires-clause-line
cut_front-requires-clause-line c =
    let t = c.args.self.now in
    let w = c.args.width in
    let r = c.args.r in
    let flag = flag_there t r c.index.result.now false c.requires.row c.index.ensures c.if-not-index.true in
    subst (λ (z : List ℤ). IsIntegerRow widest w (row_in w z)) (row_standing_short t r flag ∙ sym c.row_mut.ensures.row)
    (row_below (2 ^ 127 - 1) widest w (row_in w (row_at (rows_in t) r)) c.requires.line (c.requires.stored.short flag).0)

pub returns-then-not-index-clause-line : goal.returns-then-not-index-clause-line
returns-then-not-index-clause-line c =
    let t = c.args.self.now in
    let w = c.args.width in
    let r = c.args.r in
    let x = row_at t.short.rows r in
    let y = c.cut_front.new.row in
    let full : length y ≡ t.short.width = omega (arith, c.row_mut.ensures.width, c.cut_front.auto.row) in
    let flag = flag_there t r c.index.result.now false c.requires.row c.index.ensures c.if-not-index.true in
    let here = row_short t.is_wide.items (set t.short.rows r (refit t.short.width x y)) t.wide.rows r flag in
    ap (row_in w) (here ∙ row_placed t.short.width r t.short.rows x y c.requires.row full) ∙ c.cut_front.ensures ∙ ap (λ (z : List ℤ). cut (row_in w z)) (c.row_mut.ensures.row ∙ sym (row_standing_short t r flag))

pub returns-then-not-index-clause-written : goal.returns-then-not-index-clause-written
returns-then-not-index-clause-written c =
    let t = c.args.self.now in
    let w = c.args.width in
    let r = c.args.r in
    let x = row_at t.short.rows r in
    let y = c.cut_front.new.row in
    let l = row_in w (row_at (rows_in t) r) in
    let full : length y ≡ t.short.width = omega (arith, c.row_mut.ensures.width, c.cut_front.auto.row) in
    let flag = flag_there t r c.index.result.now false c.requires.row c.index.ensures c.if-not-index.true in
    let is_cut : row_in w (row_at (set t.short.rows r (refit t.short.width x y)) r) ≡ cut l =
    ap (row_in w) (row_placed t.short.width r t.short.rows x y c.requires.row full) ∙ c.cut_front.ensures ∙ ap (λ (z : List ℤ). cut (row_in w z)) (c.row_mut.ensures.row ∙ sym (row_standing_short t r flag)) in
    let less : row_size (row_in w (row_at (set t.short.rows r (refit t.short.width x y)) r)) ≤ row_size l = subst (λ (m : IntegerRow). row_size m ≤ row_size l) (sym is_cut) (cut_size (2 ^ 127 - 1) w l c.requires.line) in
    let short = c.requires.stored.short flag in
    let kept : row_size (row_in w (row_at (set t.short.rows r (refit t.short.width x y)) r)) ≤ size_at t r = omega (arith, less, c.requires.stored.size) in
    let low : row_size (row_in w (row_at (set t.short.rows r (refit t.short.width x y)) r)) ≤ widest = omega (arith, less, short.0) in
    written w r t _
    (changed_at (stays refl) (stays refl) (put _ refl) (stays refl) refl refl)
    (stored_short w r _ flag kept low short.1)

pub cut_wide_front-requires-clause-line : goal.cut_wide_front-requires-clause-line
cut_wide_front-requires-clause-line c =
    let t = c.args.self.now in
    let w = c.args.width in
    let r = c.args.r in
    let flag = flag_there t r c.index.result.now true c.requires.row c.index.ensures c.if-not-index.false in
    subst (λ (z : List ℤ). IsIntegerRow (2 ^ 127 - 1) w (row_in w z)) (row_standing_wide t r c.requires.row flag ∙ sym c.row_mut-2.ensures.row) c.requires.line

pub settle-requires-clause-line : goal.settle-requires-clause-line
settle-requires-clause-line c =
    let t = c.args.self.now in
    let w = c.args.width in
    let r = c.args.r in
    let x = row_at t.wide.rows r in
    let y = c.cut_wide_front.new.row in
    let l = row_in w (row_at (rows_in t) r) in
    let low : r < length t.wide.rows = omega arith in
    let full : length y ≡ t.wide.width = omega (arith, c.row_mut-2.ensures.width, c.cut_wide_front.auto.row) in
    let flag = flag_there t r c.index.result.now true c.requires.row c.index.ensures c.if-not-index.false in
    let is_cut : row_in w (row_at (set t.wide.rows r (refit t.wide.width x y)) r) ≡ cut l =
    ap (row_in w) (row_placed t.wide.width r t.wide.rows x y low full) ∙ c.cut_wide_front.ensures ∙ ap (λ (z : List ℤ). cut (row_in w z)) (c.row_mut-2.ensures.row ∙ sym (row_standing_wide t r c.requires.row flag)) in
    (2 ^ 127 - 1, subst (λ (m : IntegerRow). IsIntegerRow (2 ^ 127 - 1) w m) (sym is_cut) (cut_within (2 ^ 127 - 1) w l c.requires.line))

pub settle-requires-clause-size : goal.settle-requires-clause-size
settle-requires-clause-size c =
    let t = c.args.self.now in
    let w = c.args.width in
    let r = c.args.r in
    let size = c.wide_size.result in
    let row = row_at (set t.wide.rows r (refit t.wide.width (row_at t.wide.rows r) c.cut_wide_front.new.row)) r in
    subst (λ (k : ℕ). row_size (row_in w row) ≤ k) (sym (at_set_same t.sizes.items r size 0 (omega arith)))
    (subst (λ (z : List ℤ). row_size (row_in w z) ≤ size) c.row.ensures.row (size_of_front size w c.row.result.now c.wide_size.ensures))

pub returns-clause-line : goal.returns-clause-line
returns-clause-line c =
    let t = c.args.self.now in
    let w = c.args.width in
    let r = c.args.r in
    let x = row_at t.wide.rows r in
    let y = c.cut_wide_front.new.row in
    let low : r < length t.wide.rows = omega arith in
    let full : length y ≡ t.wide.width = omega (arith, c.row_mut-2.ensures.width, c.cut_wide_front.auto.row) in
    let flag = flag_there t r c.index.result.now true c.requires.row c.index.ensures c.if-not-index.false in
    let there = row_wide t.is_wide.items t.short.rows (set t.wide.rows r (refit t.wide.width x y)) r c.requires.row (simp length-set low) flag in
    c.settle.ensures.line ∙ ap (row_in w) (there ∙ row_placed t.wide.width r t.wide.rows x y low full) ∙ c.cut_wide_front.ensures
    ∙ ap (λ (z : List ℤ). cut (row_in w z)) (c.row_mut-2.ensures.row ∙ sym (row_standing_wide t r c.requires.row flag))

pub returns-clause-written : goal.returns-clause-written
returns-clause-written c =
    let t = c.args.self.now in
    let r = c.args.r in
    written_after c.args.width r t _ c.settle.new.self c.settle.ensures.written
    (changed_at (stays refl) (put _ refl) (stays refl) (put _ refl) refl refl)
