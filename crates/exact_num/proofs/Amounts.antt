-- Amounts over a denominator.
use Rattle.std.proofs.Common.{◌≡◌, ℕ, suc, ◌*◌, ◌/◌, List, [], ◌∷◌, length, arith, ℤ, pos, ◌*ℤ◌, ◌≤ℤ◌, refl, ap, sym, ◌∙◌}
use Rattle.std.specs.Int.{◌∣◌}
use Rattle.std.proofs.lemmas.Int.{ints}
use native.Mathlib.Nat.{mul-div_cancel', mul-div_cancel_left}
use Rattle.arithmetic.specs.Sums.{positive_part}
use Rattle.arithmetic.proofs.Integers.{*ℤ_mono}
use Rattle.arithmetic.proofs.Parts.{part_above}
use Rattle.arithmetic.proofs.Products.{products}
use Rattle.exact_num.specs.Fraction.{Fraction, IsDefined}
use Rattle.exact_num.specs.CommonDenominator.{amount_over, AreParts}

-- that of a fraction not below 0 is a natural number
pub amount_is_natural : (F : ℕ) (f : Fraction) → pos 0 ≤ℤ f.numerator → amount_over F f ≡ pos (positive_part (amount_over F f))
amount_is_natural F f low = sym (part_above (amount_over F f) (omega (arith, ints, *ℤ_mono (F / f.denominator) (pos 0) f.numerator low)))

-- that over a multiple is a multiple
pub amount_over-scale : (k F : ℕ) (f : Fraction) → IsDefined f → f.denominator ∣ F → amount_over (k * F) f ≡ amount_over F f *ℤ pos k
amount_over-scale k F f defined h =
    let d = f.denominator in
    let q = F / d in
    let e : d * q ≡ F = mul-div_cancel' d h in
    let m : k * F ≡ d * (k * q) = omega (arith, ap (λ n. k * n) e) in
    let r : (k * F) / d ≡ k * q = ap (λ n. n / d) m ∙ mul-div_cancel_left (k * q) defined in
    let s : f.numerator *ℤ pos (k * q) ≡ (f.numerator *ℤ pos q) *ℤ pos k = omega (arith, ints, products) in
    ap (λ n. f.numerator *ℤ pos n) r ∙ s

-- there are as many as fractions
pub parts_count : (F : ℕ) (fs : List Fraction) (X : List ℤ) → AreParts F fs X → length X ≡ length fs
parts_count F [] [] h = refl
parts_count F [] (x ∷ X) h = absurd h
parts_count F (f ∷ fs) [] h = absurd h
parts_count F (f ∷ fs) (x ∷ X) h = ap suc (parts_count F fs X h.1)
