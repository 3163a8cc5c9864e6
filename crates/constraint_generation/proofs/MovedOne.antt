-- A row of zeros with a 1 that moves a place on.
use Rattle.std.proofs.Common.{◌≡◌, ℕ, zero, suc, ◌+◌, ◌<◌, List, ◌∷◌, length, map, pos, add-one, arith, refl, ap, sym, ◌∙◌}
use Rattle.std.specs.Prelude.{slice_set}
use Rattle.std.proofs.lemmas.List.{length-map, map-set}
use Rattle.exact_num.specs.Fraction.{Fraction, whole}
use Rattle.simplex_run.specs.Places.{fraction_zero, unit_row}
use Rattle.simplex_run.proofs.UnitRows.{length-unit}

one_on : (n i : ℕ) → suc i < n → slice_set (slice_set (unit_row n i) i fraction_zero) (suc i) (whole (pos 1)) ≡ unit_row n (suc i)
unfolding unit_row
one_on zero i within = absurd (omega arith)
one_on (suc zero) i within = absurd (omega arith)
one_on (suc (suc n)) zero within = refl
one_on (suc (suc n)) (suc i) within = ap (λ (l : List Fraction). fraction_zero ∷ l) (one_on (suc n) i (omega arith))

pub one_moved : {A : Type 0} (value : A → Fraction) (items : List A) (n i : ℕ) (none one : A) → map value items ≡ unit_row n i → i + 1 < n → value none ≡ fraction_zero → value one ≡ whole (pos 1)
    → map value (slice_set (slice_set items i none) (i + 1) one) ≡ unit_row n (i + 1)
one_moved value items n i none one unit within none_is one_is =
    map-set value (slice_set items i none) (i + 1) one
    ∙ ap (λ (l : List Fraction). slice_set l (i + 1) (value one)) (map-set value items i none)
    ∙ (λ j. slice_set (slice_set (unit j) i (none_is j)) (i + 1) (one_is j))
    ∙ rw add-one (one_on n i (omega arith))

pub unit_width : {A : Type 0} (value : A → Fraction) (items : List A) (n i : ℕ) → map value items ≡ unit_row n i → length items ≡ n
unit_width value items n i unit = sym (length-map items value) ∙ ap length unit ∙ length-unit n i
