use Rattle.std.proofs.Common.{◌≡◌, ◌+◌, ◌-◌, ◌/◌, ◌∙◌, refl, sym, ap, arith, rules, length, take, drop, slice_index_or, pos, unsigned_abs, to_z, FitsSigned, w64, ℕ}
use Rattle.std.proofs.lemmas.Int.{to_z-of_z, to_z_pos}
use Rattle.std.proofs.lemmas.List.{length-take-le, length-drop}
use Rattle.std.proofs.Math.Nat.{div-le_self}
use borrow.Rule.Slice.PartMut.{put_mid}
use Rattle.run_equivalence.specs.IntegerRows.{integer_row, number_at}
use Rattle.run_equivalence.specs.WholePivoting.{common_of, cut, divided_by}
use Rattle.integer_tableau.specs.Rows.{row_in}
use Rattle.integer_tableau.proofs.Cut.{cut_is, whole_is}
use Rattle.integer_tableau.proofs.Turned.{front_of_mid, taken_front, written_front}
use Rattle.integer_tableau.proofs.front.cut_front.Goals as goal

pub returns-then-divisor-eq1 : goal.returns-then-divisor-eq1
returns-then-divisor-eq1 c =
    let w = c.args.width in
    let wide : w + 1 - 1 ≡ w = omega arith in
    let row = c.args.row.now in
    let ns = take (w + 1 - 1) (drop 1 row) in
    let first = slice_index_or row 0 (pos 0) in
    let fz : FitsSigned w64 first = search rules in
    let size : c.unsigned_abs-denominator.result ≡ unsigned_abs first = simp to_z-of_z at c.unsigned_abs-denominator.ensures.value in
    let behind = length-drop 1 row in
    let count : length ns ≡ w = rw wide (length-take-le w (drop 1 row) (omega (arith, behind, c.requires.width))) in
    let is_integer_row : integer_row (unsigned_abs first) ns ≡ row_in w row = rw wide refl in
    let front = front_of_mid w (w + 1 - 1) row ns (omega (arith, c.requires.width)) count in
    let same = taken_front w (put_mid 1 (w + 1 - 1) row ns) ns (number_at row 0) front in
    let d = unsigned_abs first in
    let common : c.common_short-divisor.result ≡ common_of d ns = c.common_short-divisor.ensures.value ∙ ap (λ (k : ℕ). common_of k ns) size in
    same ∙ sym (whole_is d ns) ∙ ap (λ (k : ℕ). divided_by k (integer_row d ns)) (sym c.if-divisor-eq1.true) ∙ cut_is d c.common_short-divisor.result ns common ∙ ap cut is_integer_row

pub returns : goal.returns
returns c =
    let w = c.args.width in
    let wide : w + 1 - 1 ≡ w = omega arith in
    let row = c.args.row.now in
    let ns = take (w + 1 - 1) (drop 1 row) in
    let first = slice_index_or row 0 (pos 0) in
    let fz : FitsSigned w64 first = search rules in
    let size : c.unsigned_abs-denominator.result ≡ unsigned_abs first = simp to_z-of_z at c.unsigned_abs-denominator.ensures.value in
    let behind = length-drop 1 row in
    let count : length ns ≡ w = rw wide (length-take-le w (drop 1 row) (omega (arith, behind, c.requires.width))) in
    let is_integer_row : integer_row (unsigned_abs first) ns ≡ row_in w row = rw wide refl in
    let d = c.unsigned_abs-denominator.result in
    let g = c.common_short-divisor.result in
    let ms = c.divide_numbers.new.numbers in
    let many : length ms ≡ w = c.divide_numbers.auto.numbers ∙ count in
    let front = front_of_mid w (w + 1 - 1) row ms (omega (arith, c.requires.width)) many in
    let less = div-le_self d g in
    let low = c.requires.line.below in
    let signed : to_z w64 (d / g) ≡ pos (d / g) = to_z_pos w64 (d / g) (omega (arith, less, low, size)) in
    let line = written_front w (put_mid 1 (w + 1 - 1) row ms) ms (number_at row 0) (pos (d / g)) front in
    rw signed (line ∙ ap (integer_row (d / g)) c.divide_numbers.ensures ∙ cut_is d g ns c.common_short-divisor.ensures.value ∙ ap (λ (k : ℕ). cut (integer_row k ns)) size ∙ ap cut is_integer_row)
