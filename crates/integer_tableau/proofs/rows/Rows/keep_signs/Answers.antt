use Rattle.std.proofs.Common.{◌≡◌, ◌<◌, ◌∙◌, refl, sym, ap, subst, arith, ℤ, List, length, map, take, ◌+◌, set, length-set}
use Rattle.std.specs.Int.{int_signum}
use Rattle.lists.specs.Parts.{refit}
use Rattle.integer_tableau.specs.Rows.{row_at}
use Rattle.integer_tableau.specs.Stored.{HasSigns}
use Rattle.integer_tableau.proofs.Changed.{changed_at, row_placed, stored_wide, written}
use Rattle.integer_tableau.proofs.Fronts.{signs_of_signs}
use Rattle.integer_tableau.proofs.Stored.{put, stays, signs_written}
use Rattle.integer_tableau.proofs.rows.Rows.keep_signs.Goals as goal

pub returns-clause-rows : goal.returns-clause-rows
returns-clause-rows c =
    let t = c.args.self.now in
    signs_written t.is_wide.items t.short.rows t.wide.rows c.args.i _ c.requires.wide (omega arith)

pub returns-clause-written : goal.returns-clause-written
returns-clause-written c =
    let t = c.args.self.now in
    let w = c.args.width in
    let i = c.args.i in
    let x = row_at t.short.rows i in
    let z = row_at t.wide.rows i in
    let y = c.write_front_signs.new.row in
    let full : length y ≡ t.short.width = omega (arith, c.row_mut.ensures.width, c.write_front_signs.auto.row) in
    let signs : HasSigns w y z = signs_of_signs w y z (c.write_front_signs.ensures ∙ ap (λ (s : List ℤ). map int_signum (take (w + 1) s)) c.row.ensures.row) in
    let low : i < length t.short.rows = c.requires.row in
    let still : i < length (set t.short.rows i (refit t.short.width x y)) = simp length-set low in
    written w i t _
    (changed_at (stays refl) (stays refl) (put _ refl) (stays refl) refl refl)
    (stored_wide w i _ still c.requires.wide c.requires.size (subst (λ (s : List ℤ). HasSigns w s z) (sym (row_placed t.short.width i t.short.rows x y low full)) signs))
