-- The rationals: fractions in lowest terms, so that equal values are equal; sums of them over the
-- numbers below n.
use Rattle.std.specs.Prelude.{ℕ, zero, suc, ◌/◌, ◌<◌, ℤ, pos, ◌<ℤ◌, ◌≤ℤ◌, unsigned_abs, nat_eq, Bool, true, false}
use Rattle.std.proofs.Math.Nat.{zero-lt-suc}
use Rattle.std.proofs.Math.Path.{ap, ◌∙◌}
use Rattle.arithmetic.specs.Gcd.{gcd}
use Rattle.arithmetic.proofs.GcdLaws.{gcd_dvd_right, gcd_pos_right, coprime_of_div, pos_of_quotient}
use Rattle.arithmetic.proofs.Quotients.{unsigned_abs-int_div}
use Rattle.exact_num.specs.Fraction.{Fraction, IsLowest, whole, negated, reduced, plain_sum, plain_product}
use Rattle.exact_num.specs.Fits.{inverse}

pub record Q : Type 0 where
  pub fraction : Fraction
  pub lowest : IsLowest fraction

-- ---- the value of a fraction, where its denominator is above 0
pub reduced_is_lowest : (n : ℤ) (d : ℕ) → 0 < d → IsLowest (reduced n d)
unfolding reduced
reduced_is_lowest n d p =
    let a = unsigned_abs n in
    let g = gcd a d in
    record {
      positive = pos_of_quotient d g p (gcd_pos_right a d p) (gcd_dvd_right a d);
      coprime = ap (λ (m : ℕ). gcd m (d / g)) (unsigned_abs-int_div n g) ∙ coprime_of_div a d (gcd_pos_right a d p);
    }

unfoldable pub quotient_of : ℤ → ℕ → Q
quotient_of n zero = record { fraction = reduced (pos 0) 1; lowest = reduced_is_lowest (pos 0) 1 (zero-lt-suc 0) }
quotient_of n (suc d) = record { fraction = reduced n (suc d); lowest = reduced_is_lowest n (suc d) (zero-lt-suc d) }

unfoldable pub value : Fraction → Q
value x = quotient_of x.numerator x.denominator

-- ---- the operations
infixl 60 ◌+Q◌
infixl 70 ◌*Q◌
unfoldable pub ◌+Q◌ : Q → Q → Q
x +Q y = value (plain_sum x.fraction y.fraction)

unfoldable pub ◌*Q◌ : Q → Q → Q
x *Q y = value (plain_product x.fraction y.fraction)

unfoldable pub neg_Q : Q → Q
neg_Q x = value (negated x.fraction)

unfoldable pub whole_Q : ℤ → Q
whole_Q z = value (whole z)

unfoldable pub 0Q : Q
0Q = whole_Q (pos 0)

unfoldable pub 1Q : Q
1Q = whole_Q (pos 1)

-- ---- the signs
abbrev pub IsNotBelow0 : Q → Type 0
IsNotBelow0 x = pos 0 ≤ℤ x.fraction.numerator

abbrev pub IsAbove0 : Q → Type 0
IsAbove0 x = pos 0 <ℤ x.fraction.numerator

abbrev pub IsBelow0 : Q → Type 0
IsBelow0 x = x.fraction.numerator <ℤ pos 0

-- ---- the order
abbrev pub IsAtMost : Q → Q → Type 0
IsAtMost x y = IsNotBelow0 (y +Q neg_Q x)

-- ---- the inverse
unfoldable pub inv_Q : Q → Q
inv_Q x = value (inverse x.fraction)

-- ---- sums over the numbers below n
unfoldable pub total : ℕ → (ℕ → Q) → Q
total zero f = 0Q
total (suc n) f = total n f +Q f n

-- ---- 1 at one place, else 0
abbrev pub one_or_zero : Bool → Q
one_or_zero true = 1Q
one_or_zero false = 0Q

unfoldable pub unit : ℕ → ℕ → Q
unit k j = one_or_zero (nat_eq k j)

-- the vector with v i at the place g i
unfoldable pub spread : ℕ → (ℕ → ℕ) → (ℕ → Q) → ℕ → Q
spread m g v j = total m (λ i. unit (g i) j *Q v i)
