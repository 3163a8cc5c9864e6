use Rattle.std.proofs.Common.{◌≡◌, ◌≤◌, ◌∙◌, refl, sym, ap, subst, arith, false, length, take, set, ◌+◌}
use Rattle.lists.specs.Parts.{refit}
use Rattle.run_equivalence.specs.IntegerRows.{IntegerRow, row_size, widest}
use Rattle.integer_tableau.specs.Rows.{row_in, row_at}
use Rattle.integer_tableau.specs.Stored.{size_at}
use Rattle.integer_tableau.proofs.Changed.{changed_at, flag_unset, row_placed, stored_short, written}
use Rattle.integer_tableau.proofs.Fronts.{row_of_front}
use Rattle.integer_tableau.proofs.Stored.{row_short, row_wide, put, stays}
use Rattle.integer_tableau.proofs.Turned.{size_below}
use Rattle.integer_tableau.proofs.rows.Rows.narrow_row.Goals as goal

pub narrow_front-requires-clause-line : goal.narrow_front-requires-clause-line
narrow_front-requires-clause-line c = rw c.row.ensures.row c.requires.line

pub returns-clause-line : goal.returns-clause-line
returns-clause-line c =
    let t = c.args.self.now in
    let w = c.args.width in
    let i = c.args.i in
    let x = row_at t.short.rows i in
    let y = c.narrow_front.new.row in
    let full : length y ≡ t.short.width = omega (arith, c.row_mut.ensures.width, c.narrow_front.auto.row) in
    let same = row_of_front w y (row_at t.wide.rows i) (c.narrow_front.ensures ∙ ap (take (w + 1)) c.row.ensures.row) in
    let here = row_short (set t.is_wide.items i false) (set t.short.rows i (refit t.short.width x y)) t.wide.rows i (flag_unset t.is_wide.items i) ∙ row_placed t.short.width i t.short.rows x y c.requires.row full in
    ap (row_in w) here ∙ same ∙ ap (row_in w) (sym (row_wide t.is_wide.items t.short.rows t.wide.rows i c.requires.row (omega arith) c.requires.wide))

pub returns-clause-written : goal.returns-clause-written
returns-clause-written c =
    let t = c.args.self.now in
    let w = c.args.width in
    let i = c.args.i in
    let x = row_at t.short.rows i in
    let z = row_at t.wide.rows i in
    let y = c.narrow_front.new.row in
    let full : length y ≡ t.short.width = omega (arith, c.row_mut.ensures.width, c.narrow_front.auto.row) in
    let same : row_in w (row_at (set t.short.rows i (refit t.short.width x y)) i) ≡ row_in w z =
    ap (row_in w) (row_placed t.short.width i t.short.rows x y c.requires.row full) ∙ row_of_front w y z (c.narrow_front.ensures ∙ ap (take (w + 1)) c.row.ensures.row) in
    written w i t _
    (changed_at (put _ refl) (stays refl) (put _ refl) (stays refl) refl refl)
    (stored_short w i _ (flag_unset t.is_wide.items i) (subst (λ (l : IntegerRow). row_size l ≤ size_at t i) (sym same) c.requires.size)
    (subst (λ (l : IntegerRow). row_size l ≤ widest) (sym same) (size_below widest w (row_in w z) c.requires.line)) c.requires.size_short)
