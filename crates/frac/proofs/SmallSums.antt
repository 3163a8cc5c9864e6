-- Sums of small fractions: what the code divides, and what it ends with.
use Rattle.std.proofs.Common.{◌≡◌, ℕ, ◌*◌, ◌/◌, ◌<◌, ◌^◌, ℤ, pos, ◌*ℤ◌, ◌+ℤ◌, arith, refl}
use Rattle.std.specs.Prelude.{unsigned_abs, int_div}
use Rattle.std.proofs.lemmas.Int.{ints, fits_signed_from_abs}
use Rattle.std.proofs.Math.Nat.{div-le_self}
use mir.Val.{SFits}
use mir.Syntax.{w128}
use Rattle.arithmetic.specs.Gcd.{gcd}
use Rattle.exact_num.specs.Fraction.{Fraction, over}
use Rattle.exact_num.specs.Fits.{sum_divisor, sum_left, sum_right, sum_total, sum_common, sum_below, sum_value}
use Rattle.frac.specs.Range.{IsSmall}
use Rattle.frac.proofs.SumSteps.{over_one_value}
use Rattle.frac.proofs.SmallSteps.{quotient_is_below, natural_is_short, SumFits, sums_fit}

-- the numbers on the way to the sum, over what the denominators do not share
pub two_fit : (x y : Fraction) (g left right : ℕ) → IsSmall x → IsSmall y → left ≡ x.denominator / g → right ≡ y.denominator / g → SumFits x.numerator y.numerator left right
two_fit x y g left right p q el er =
    sums_fit x.numerator y.numerator left right (p.0, rw el (omega (arith, p.1, div-le_self x.denominator g))) (q.0, rw er (omega (arith, q.1, div-le_self y.denominator g)))

-- n / b is the sum, and both are short
pub record IsShortSum (x y : Fraction) (n : ℤ) (b : ℕ) : Type 0 where
  pub value : over n b ≡ sum_value x y
  pub wide : SFits w128 n
  pub above : unsigned_abs n < 2 ^ 127
  pub below : b < 2 ^ 127

ended : (x y : Fraction) (t n : ℤ) (shared b : ℕ) → unsigned_abs t < 2 ^ 63 → n ≡ int_div t (pos shared) → b < 2 ^ 62 → over n b ≡ sum_value x y → IsShortSum x y n b
ended x y t n shared b size en low value =
    let small : unsigned_abs n < 2 ^ 63 = quotient_is_below (2 ^ 63) t n shared size en in
    record { value = value; wide = fits_signed_from_abs w128 n (omega (arith, small)); above = omega (arith, small); below = omega (arith, low) }

pub over_one_ends : (x y : Fraction) (n : ℤ) (shared b : ℕ) → IsSmall x → IsSmall y → 0 < x.denominator → y.denominator ≡ x.denominator
    → shared ≡ gcd (unsigned_abs (x.numerator +ℤ y.numerator)) x.denominator → n ≡ int_div (x.numerator +ℤ y.numerator) (pos shared) → b ≡ x.denominator / shared → IsShortSum x y n b
over_one_ends x y n shared b p q positive same es en eb =
    ended x y (x.numerator +ℤ y.numerator) n shared b (omega (arith, ints, p.0, q.0)) en (rw eb (omega (arith, p.1, div-le_self x.denominator shared))) (over_one_value x y n shared b positive same es en eb)

-- the sum by its parts
parts_value : (x y : Fraction) (g shared left right k : ℕ) (t n : ℤ) → g ≡ sum_divisor x y → left ≡ x.denominator / g → right ≡ y.denominator / g
    → t ≡ x.numerator *ℤ pos right +ℤ y.numerator *ℤ pos left → shared ≡ gcd (unsigned_abs t) g → n ≡ int_div t (pos shared) → k ≡ y.denominator / shared
    → over n (left * k) ≡ sum_value x y
unfolding sum_value sum_below sum_total sum_left sum_right sum_common
parts_value x y g shared left right k t n eg el er et es en ek = rw (en, ek, es, et, el, er, eg) refl

pub over_two_ends : (x y : Fraction) (g shared left right k : ℕ) (n : ℤ) → IsSmall x → IsSmall y → g ≡ sum_divisor x y → left ≡ x.denominator / g → right ≡ y.denominator / g
    → shared ≡ gcd (unsigned_abs (x.numerator *ℤ pos right +ℤ y.numerator *ℤ pos left)) g → n ≡ int_div (x.numerator *ℤ pos right +ℤ y.numerator *ℤ pos left) (pos shared) → k ≡ y.denominator / shared
    → IsShortSum x y n (left * k)
over_two_ends x y g shared left right k n p q eg el er es en ek =
    let t = x.numerator *ℤ pos right +ℤ y.numerator *ℤ pos left in
    let low = natural_is_short left k x.denominator y.denominator (rw el (div-le_self x.denominator g)) (rw ek (div-le_self y.denominator shared)) p.1 q.1 in
    ended x y t n shared (left * k) (two_fit x y g left right p q el er).size en low (parts_value x y g shared left right k t n eg el er refl es en ek)
