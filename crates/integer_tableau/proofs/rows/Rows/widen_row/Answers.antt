use Rattle.std.proofs.Common.{◌≡◌, ◌<◌, ◌≤◌, ◌∙◌, refl, sym, ap, subst, arith, false, true, ℤ, List, length, take, set, ◌+◌, length-set}
use Rattle.lists.specs.Parts.{refit}
use Rattle.fraction_tableau.proofs.ArenaSteps.{at_set_same}
use Rattle.run_equivalence.specs.IntegerRows.{IntegerRow, row_size}
use Rattle.integer_tableau.specs.Rows.{row_in, row_at}
use Rattle.integer_tableau.specs.Stored.{HasSigns, size_at}
use Rattle.integer_tableau.proofs.Changed.{changed_at, row_placed, stored_wide, written}
use Rattle.integer_tableau.proofs.Fronts.{row_of_front, signs_of_same}
use Rattle.integer_tableau.proofs.Standing.{flag_there, row_standing_short}
use Rattle.integer_tableau.proofs.Stored.{row_wide, put, stays}
use Rattle.integer_tableau.proofs.rows.Rows.widen_row.Goals as goal

pub returns-then-index-clause-wide : goal.returns-then-index-clause-wide
returns-then-index-clause-wide c = flag_there c.args.self.now c.args.i c.index.result.now true c.requires.row c.index.ensures c.if-index.true

pub returns-then-index-clause-written : goal.returns-then-index-clause-written
returns-then-index-clause-written c =
    let t = c.args.self.now in
    let i = c.args.i in
    let stored = c.requires.stored in
    written c.args.width i t _
    (changed_at (stays refl) (stays refl) (stays refl) (stays refl) refl refl)
    (record { size = stored.size; short = stored.short; signs = stored.signs })

pub returns-clause-line : goal.returns-clause-line
returns-clause-line c =
    let t = c.args.self.now in
    let w = c.args.width in
    let i = c.args.i in
    let z = row_at t.wide.rows i in
    let y = c.widen_front.new.row in
    let low : i < length t.wide.rows = omega arith in
    let full : length y ≡ t.wide.width = omega (arith, c.row_mut.ensures.width, c.widen_front.auto.row) in
    let same = row_of_front w y (row_at t.short.rows i) (c.widen_front.ensures ∙ ap (take (w + 1)) c.row.ensures.row) in
    let flag = at_set_same t.is_wide.items i true false (omega arith) in
    let here = row_wide (set t.is_wide.items i true) t.short.rows (set t.wide.rows i (refit t.wide.width z y)) i c.requires.row (simp length-set low) flag ∙ row_placed t.wide.width i t.wide.rows z y low full in
    ap (row_in w) here ∙ same ∙ ap (row_in w) (sym (row_standing_short t i (flag_there t i c.index.result.now false c.requires.row c.index.ensures c.if-index.false)))

pub returns-clause-wide : goal.returns-clause-wide
returns-clause-wide c = at_set_same c.args.self.now.is_wide.items c.args.i true false (omega arith)

pub returns-clause-written : goal.returns-clause-written
returns-clause-written c =
    let t = c.args.self.now in
    let w = c.args.width in
    let i = c.args.i in
    let x = row_at t.short.rows i in
    let z = row_at t.wide.rows i in
    let y = c.widen_front.new.row in
    let low : i < length t.wide.rows = omega arith in
    let full : length y ≡ t.wide.width = omega (arith, c.row_mut.ensures.width, c.widen_front.auto.row) in
    let front = c.widen_front.ensures ∙ ap (take (w + 1)) c.row.ensures.row in
    let placed = row_placed t.wide.width i t.wide.rows z y low full in
    let old = row_standing_short t i (flag_there t i c.index.result.now false c.requires.row c.index.ensures c.if-index.false) in
    let same : row_in w (row_at (set t.wide.rows i (refit t.wide.width z y)) i) ≡ row_in w (row_at t.short.rows i) = ap (row_in w) placed ∙ row_of_front w y x front in
    written w i t _
    (changed_at (put _ refl) (stays refl) (stays refl) (put _ refl) refl refl)
    (stored_wide w i _ c.requires.row (at_set_same t.is_wide.items i true false (omega arith))
    (subst (λ (l : IntegerRow). row_size l ≤ size_at t i) (sym same) (subst (λ (s : List ℤ). row_size (row_in w s) ≤ size_at t i) old c.requires.stored.size))
    (subst (λ (s : List ℤ). HasSigns w x s) (sym placed) (signs_of_same w x y (sym front))))
