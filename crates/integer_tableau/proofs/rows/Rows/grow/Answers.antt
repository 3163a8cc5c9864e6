use Rattle.std.proofs.Common.{◌≡◌, ◌<◌, ◌≤◌, ◌∙◌, refl, sym, ap, subst, arith, false, true, ℕ, ℤ, List, length, set, length-set, bit_or}
use Rattle.lists.specs.Parts.{refit}
use Rattle.fraction_tableau.proofs.ArenaSteps.{at_set_same}
use Rattle.run_equivalence.specs.IntegerRows.{IntegerRow, integer_row, row_size}
use Rattle.integer_tableau.specs.Rows.{row_in, row_at}
use Rattle.integer_tableau.proofs.Changed.{changed_at, row_placed, written_after}
use Rattle.integer_tableau.proofs.Numbers.{size_made}
use Rattle.integer_tableau.proofs.Stored.{row_wide, put, stays}
use Rattle.integer_tableau.proofs.rows.Rows.grow.Goals as goal

pub keep_signs-requires-clause-size : goal.keep_signs-requires-clause-size
keep_signs-requires-clause-size c =
    let t = c.args.self.now in
    let zs = c.args.numbers.now in
    let i = c.args.i in
    let d = c.args.denominator in
    let z = row_at t.wide.rows i in
    let y = c.write_front.new.row in
    let size = bit_or c.wide_size.result d in
    let low : i < length t.wide.rows = omega arith in
    let full : length y ≡ t.wide.width = omega (arith, c.row_mut.ensures.width, c.write_front.auto.row) in
    let line : row_in (length zs) (row_at (set t.wide.rows i (refit t.wide.width z y)) i) ≡ integer_row d zs = ap (row_in (length zs)) (row_placed t.wide.width i t.wide.rows z y low full) ∙ c.write_front.ensures in
    subst (λ (k : ℕ). row_size (row_in (length zs) (row_at (set t.wide.rows i (refit t.wide.width z y)) i)) ≤ k) (sym (at_set_same t.sizes.items i size 0 (omega arith)))
    (subst (λ (l : IntegerRow). row_size l ≤ size) (sym line) (size_made c.wide_size.result d zs c.wide_size.ensures))

pub returns-clause-line : goal.returns-clause-line
returns-clause-line c =
    let t = c.args.self.now in
    let w = length c.args.numbers.now in
    let i = c.args.i in
    let z = row_at t.wide.rows i in
    let y = c.write_front.new.row in
    let low : i < length t.wide.rows = omega arith in
    let full : length y ≡ t.wide.width = omega (arith, c.row_mut.ensures.width, c.write_front.auto.row) in
    let there = row_wide (set t.is_wide.items i true) t.short.rows (set t.wide.rows i (refit t.wide.width z y)) i c.requires.row (simp length-set low) (at_set_same t.is_wide.items i true false (omega arith)) in
    ap (λ (rows : List (List ℤ)). row_in w (row_at rows i)) c.keep_signs.ensures.rows ∙ ap (row_in w) (there ∙ row_placed t.wide.width i t.wide.rows z y low full) ∙ c.write_front.ensures

pub returns-clause-written : goal.returns-clause-written
returns-clause-written c =
    let t = c.args.self.now in
    let i = c.args.i in
    written_after (length c.args.numbers.now) i t _ c.keep_signs.new.self c.keep_signs.ensures.written
    (changed_at (put _ refl) (put _ refl) (stays refl) (put _ refl) refl refl)
