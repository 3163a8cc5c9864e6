-- A product with a factor 0 always fits, and changes no total.
use Rattle.std.proofs.Common.{◌≡◌, ℕ, zero, suc, min, ◌≤◌, ℤ, pos, negsuc, unsigned_abs, FitsSigned, w8, to_z, of_z, arith, inl, inr, ◌⊎◌, Ok, refl, ap, sym, ◌∙◌}
use Rattle.std.specs.Int.{int_signum}
use Rattle.std.proofs.lemmas.Int.{to_z-of_z}
use Rattle.exact_num.specs.Fraction.{Fraction, IsLowest, whole}
use Rattle.exact_num.specs.Fits.{mul_of}
use Rattle.exact_num.proofs.Units.{add-zero, mul-zero, zero-mul, zero_is}
use Rattle.form.specs.declared.orders.Side.{Side}
use Rattle.form.specs.declared.orders.Side.TheVariants.{Buy, Sell}
use Rattle.form.specs.Steps.{add_for_side}

-- a number whose sign is 0 is 0
pub zero_sign : (z : ℤ) → int_signum z ≡ pos 0 → z ≡ pos 0
zero_sign (pos zero) h = refl
zero_sign (pos (suc n)) h =
    let one : min (suc n) 1 ≡ 1 = omega arith in
    let sign = rw one at h in
    cc
zero_sign (negsuc n) h = cc

-- and one whose sign has the bits 0
pub sign_zero : (s n : ℤ) → s ≡ int_signum n → FitsSigned w8 s → of_z w8 s ≡ 0 → n ≡ pos 0
sign_zero s n is fits h = zero_sign n (sym is ∙ sym (to_z-of_z w8 s fits) ∙ ap (to_z w8) h)

no_product : (limit : ℕ) (a b : Fraction) → 1 ≤ limit → IsLowest a → IsLowest b → a.numerator ≡ pos 0 ⊎ b.numerator ≡ pos 0 → mul_of limit a b ≡ Ok (whole (pos 0))
no_product limit a b one low low' (inl is) = rw (zero_is a low is) (zero-mul limit b low' one)
no_product limit a b one low low' (inr is) = rw (zero_is b low' is) (mul-zero limit a low one)

pub nothing_added : (limit : ℕ) (total : Fraction) (side : Side) (a b : Fraction) → unsigned_abs total.numerator ≤ limit → total.denominator ≤ limit → 1 ≤ limit → IsLowest a → IsLowest b → a.numerator ≡ pos 0 ⊎ b.numerator ≡ pos 0
    → Ok total ≡ add_for_side limit total side a b
nothing_added limit total Buy a b above below one low low' none = rw (no_product limit a b one low low' none, add-zero limit total above below) refl
nothing_added limit total Sell a b above below one low low' none = rw (no_product limit a b one low low' none, add-zero limit total above below) refl
