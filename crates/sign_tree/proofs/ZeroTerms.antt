-- A product with a factor 0 always fits, and changes no total.
use Rattle.std.proofs.Common.{◌≡◌, ℕ, ◌≤◌, true, nat_eq, ℤ, pos, unsigned_abs, FitsSigned, to_z, of_z, Ok, refl, ap, sym, ◌∙◌, eqb-true}
use Rattle.std.proofs.lemmas.Int.{to_z-of_z}
use mir.Syntax.{Width}
use Rattle.exact_num.specs.Fraction.{Fraction, IsLowest, whole}
use Rattle.exact_num.specs.Fits.{mul_of}
use Rattle.exact_num.proofs.Units.{add-zero, mul-zero, zero-mul, zero_is}
use Rattle.exact_num.proofs.Values.{whole_is_lowest}
use Rattle.exact_num.specs.Steps.{plus_product, less_product}

-- a number whose bits are 0 is 0
pub zero_bits : (w : Width) (z : ℤ) → FitsSigned w z → to_z w 0 ≡ pos 0 → nat_eq (of_z w z) 0 ≡ true → z ≡ pos 0
zero_bits w z fits none h = sym (to_z-of_z w z fits) ∙ ap (to_z w) (eqb-true (of_z w z) 0 h) ∙ none

pub times_zero : (limit : ℕ) (f : Fraction) (x : ℤ) → IsLowest f → 1 ≤ limit → x ≡ pos 0 → mul_of limit f (whole x) ≡ Ok (whole (pos 0))
times_zero limit f x low one is = rw is (mul-zero limit f low one)

pub zero_times : (limit : ℕ) (f : Fraction) (x : ℤ) → IsLowest f → 1 ≤ limit → f.numerator ≡ pos 0 → mul_of limit f (whole x) ≡ Ok (whole (pos 0))
zero_times limit f x low one is = rw (zero_is f low is) (zero-mul limit (whole x) (whole_is_lowest x) one)

pub plus_nothing : (limit : ℕ) (total f : Fraction) (x : ℤ) → unsigned_abs total.numerator ≤ limit → total.denominator ≤ limit → mul_of limit f (whole x) ≡ Ok (whole (pos 0))
    → Ok total ≡ plus_product limit total f (whole x)
plus_nothing limit total f x above below none = rw (none, add-zero limit total above below) refl

pub less_nothing : (limit : ℕ) (total f : Fraction) (x : ℤ) → unsigned_abs total.numerator ≤ limit → total.denominator ≤ limit → mul_of limit f (whole x) ≡ Ok (whole (pos 0))
    → Ok total ≡ less_product limit total f (whole x)
less_nothing limit total f x above below none = rw (none, add-zero limit total above below) refl
