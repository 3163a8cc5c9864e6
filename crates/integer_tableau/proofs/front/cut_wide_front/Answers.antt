use Rattle.std.proofs.Common.{◌≡◌, ◌+◌, ◌-◌, ◌≤◌, ◌^◌, ◌∙◌, ap, sym, subst, arith, rules, length, take, drop, slice_index_or, pos, unsigned_abs, to_z, FitsSigned, ℕ}
use mir.Syntax.{w128}
use Rattle.std.proofs.lemmas.Int.{to_z-of_z, to_z_pos}
use Rattle.std.proofs.lemmas.List.{length-take-le, length-drop}
use borrow.Rule.Slice.PartMut.{put_mid}
use Rattle.run_equivalence.specs.IntegerRows.{IntegerRow, integer_row, number_at}
use Rattle.run_equivalence.specs.WholePivoting.{cut}
use Rattle.run_equivalence.proofs.IntegerRowSteps.{cut_within}
use Rattle.integer_tableau.specs.Rows.{row_in}
use Rattle.integer_tableau.proofs.Numbers.{held_128}
use Rattle.integer_tableau.proofs.Turned.{front_of_mid, written_front}
use Rattle.integer_tableau.proofs.front.cut_wide_front.Goals as goal

pub returns : goal.returns
returns c =
    let w = c.args.width in
    let wide : w + 1 - 1 ≡ w = omega arith in
    let row = c.args.row.now in
    let first = slice_index_or row 0 (pos 0) in
    let fz : FitsSigned w128 first = search rules in
    let size : c.unsigned_abs-denominator.result ≡ unsigned_abs first = simp to_z-of_z at c.unsigned_abs-denominator.ensures.value in
    let behind = length-drop 1 row in
    let count : length (take (w + 1 - 1) (drop 1 row)) ≡ w = rw wide (length-take-le w (drop 1 row) (omega (arith, behind, c.requires.width))) in
    let ms = c.divide_common-below.new.numbers in
    let d = c.divide_common-below.result in
    let many : length ms ≡ w = c.divide_common-below.auto.numbers ∙ count in
    let told : integer_row d ms ≡ cut (row_in w row) = rw (size, wide) at c.divide_common-below.ensures in
    let within = cut_within (2 ^ 127 - 1) w (row_in w row) c.requires.line in
    let low : d ≤ 2 ^ 127 - 1 = subst (λ (k : ℕ). k ≤ 2 ^ 127 - 1) (sym (ap (λ (l : IntegerRow). l.denominator) told)) within.below in
    let signed : to_z w128 d ≡ pos d = to_z_pos w128 d (omega (arith, low)) in
    let front = front_of_mid w (w + 1 - 1) row ms (omega (arith, c.requires.width)) many in
    let line = written_front w (put_mid 1 (w + 1 - 1) row ms) ms (number_at row 0) (pos d) front in
    rw signed (line ∙ told)

pub overflow_cast-row : goal.overflow_cast-row
overflow_cast-row c =
    let w = c.args.width in
    let wide : w + 1 - 1 ≡ w = omega arith in
    let row = c.args.row.now in
    let first = slice_index_or row 0 (pos 0) in
    let fz : FitsSigned w128 first = search rules in
    let size : c.unsigned_abs-denominator.result ≡ unsigned_abs first = simp to_z-of_z at c.unsigned_abs-denominator.ensures.value in
    let d = c.divide_common-below.result in
    let told : integer_row d c.divide_common-below.new.numbers ≡ cut (row_in w row) = rw (size, wide) at c.divide_common-below.ensures in
    held_128 (pos d) (subst (λ (k : ℕ). k ≤ 2 ^ 127 - 1) (sym (ap (λ (l : IntegerRow). l.denominator) told)) (cut_within (2 ^ 127 - 1) w (row_in w row) c.requires.line).below)
