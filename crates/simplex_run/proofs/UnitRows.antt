-- Rows of zeros, and rows of zeros with one 1.
use Rattle.std.proofs.Common.{◌≡◌, ℕ, zero, suc, ◌<◌, length, replicate, arith, refl, ap, pos}
use Rattle.std.proofs.lemmas.List.{length-replicate}
use Rattle.exact_num.specs.Fraction.{whole}
use Rattle.simplex_run.specs.Places.{at, unit_row}

pub length-unit : (n i : ℕ) → length (unit_row n i) ≡ n
unfolding unit_row
length-unit zero i = refl
length-unit (suc n) zero = ap suc (length-replicate n _)
length-unit (suc n) (suc i) = ap suc (length-unit n i)

pub at-zeros : (n j : ℕ) → at (replicate n (whole (pos 0))) j ≡ whole (pos 0)
at-zeros zero j = refl
at-zeros (suc n) zero = refl
at-zeros (suc n) (suc j) = at-zeros n j

pub at-own : (n i j : ℕ) → i < n → i ≡ j → at (unit_row n i) j ≡ whole (pos 1)
unfolding unit_row
at-own zero i j low e = absurd (omega (arith, low))
at-own (suc n) zero zero low e = refl
at-own (suc n) zero (suc j) low e = absurd (omega (arith, e))
at-own (suc n) (suc i) zero low e = absurd (omega (arith, e))
at-own (suc n) (suc i) (suc j) low e = at-own n i j (omega (arith, low)) (omega (arith, e))

pub at-other : (n i j : ℕ) → (i ≡ j → ⊥) → at (unit_row n i) j ≡ whole (pos 0)
unfolding unit_row
at-other zero i j ne = refl
at-other (suc n) zero zero ne = absurd (ne refl)
at-other (suc n) zero (suc j) ne = at-zeros n j
at-other (suc n) (suc i) zero ne = refl
at-other (suc n) (suc i) (suc j) ne = at-other n i j (λ e. ne (ap suc e))
