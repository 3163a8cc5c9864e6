-- The rows of quantities are rows of zeros with one 1.
use Rattle.std.proofs.Common.{◌≡◌, ℕ, zero, suc, ◌+◌, List, [], ◌∷◌, ◌++◌, length, map, arith, ℤ, pos, refl, ap, sym, ◌∙◌, subst}
use Rattle.exact_num.specs.Fraction.{whole}
use Rattle.simplex_run.specs.Places.{fraction_zero, unit_row}
use Rattle.master_program.specs.Master.{quantity_rows}
use Rattle.master_program.specs.Laws.{unit_rows, QuantityRowsAreUnitRows}
use Rattle.master_program.proofs.Matrix.{flat}
use Rattle.master_program.proofs.Steps.{zeros_are}
use Rattle.master_program.proofs.Sums.{quantity_rows_count}

-- row by row, with n places, from the row with its 1 at place i on
abbrev AreUnits : ℕ → ℕ → List (List ℤ) → Type 0
AreUnits n i [] = Unit {0}
AreUnits n i (r ∷ rows) = (map whole r ≡ unit_row n i) × AreUnits n (i + 1) rows

shifted : (n i : ℕ) (rows : List (List ℤ)) → AreUnits n i rows → AreUnits (suc n) (suc i) (map (λ (r : List ℤ). pos 0 ∷ r) rows)
unfolding unit_row
shifted n i [] h = tt
shifted n i (r ∷ rows) h =
    let e : suc (i + 1) ≡ suc i + 1 = omega arith in
    (ap (λ v. fraction_zero ∷ v) h.0, subst (λ (j : ℕ). AreUnits (suc n) j (map (λ (r : List ℤ). pos 0 ∷ r) rows)) e (shifted n (i + 1) rows h.1))

quantities_are : (k : ℕ) → AreUnits (k + 1) 0 (quantity_rows k)
unfolding unit_row
quantities_are zero = tt
quantities_are (suc k) =
    let n : suc (k + 1) ≡ suc k + 1 = omega arith in
    let later : AreUnits (suc (k + 1)) (0 + 1) (map (λ (r : List ℤ). pos 0 ∷ r) (quantity_rows k)) = shifted (k + 1) 0 (quantity_rows k) (quantities_are k) in
    subst (λ (m : ℕ). AreUnits m 0 (quantity_rows (suc k))) n (ap (λ v. whole (pos 1) ∷ v) (sym (zeros_are (k + 1))), later)

flat_units : (n i : ℕ) (rows : List (List ℤ)) → AreUnits n i rows → flat rows ≡ unit_rows n i (length rows)
unfolding unit_rows
flat_units n i [] h = refl
flat_units n i (r ∷ rows) h = ap (λ v. v ++ flat rows) h.0 ∙ ap (λ v. unit_row n i ++ v) (flat_units n (i + 1) rows h.1)

pub quantity_rows_are_unit_rows : QuantityRowsAreUnitRows
quantity_rows_are_unit_rows k = flat_units (k + 1) 0 (quantity_rows k) (quantities_are k) ∙ ap (unit_rows (k + 1) 0) (quantity_rows_count k)
