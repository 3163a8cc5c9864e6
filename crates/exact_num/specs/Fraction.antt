-- Fractions of whole numbers without a limit, in lowest terms, and their order.
use Rattle.std.specs.Prelude.{◌≡◌, ℕ, ◌<◌, ◌≤◌, ◌*◌, ◌/◌, ℤ, pos, ◌+ℤ◌, ◌*ℤ◌, ◌≤ℤ◌, neg_ℤ, unsigned_abs, int_div, List, [], ◌∷◌}
use Rattle.std.specs.declared.cmp.Ordering.{Ordering}
use Rattle.std.specs.Ordering.{int_cmp}
use Rattle.arithmetic.specs.Gcd.{gcd}

-- a numerator and a denominator
pub record Fraction : Type 0 where
  pub numerator : ℤ
  pub denominator : ℕ

-- a fraction with a value: at least 1 below
abbrev pub IsDefined : Fraction → Type 0
IsDefined x = 1 ≤ x.denominator

-- at least 1 below, and no common divisor above 1
pub record IsLowest (x : Fraction) : Type 0 where
  pub positive : 0 < x.denominator
  pub coprime : gcd (unsigned_abs x.numerator) x.denominator ≡ 1

-- the whole number v
abbrev pub whole : ℤ → Fraction
whole v = record { numerator = v; denominator = 1 }

abbrev pub negated : Fraction → Fraction
negated x = record { numerator = neg_ℤ x.numerator; denominator = x.denominator }

-- equal as values: the cross products are equal
abbrev pub IsSameValue : Fraction → Fraction → Type 0
IsSameValue x y = x.numerator *ℤ pos y.denominator ≡ y.numerator *ℤ pos x.denominator

-- the order of values, by cross products
abbrev pub fraction_cmp : Fraction → Fraction → Ordering
fraction_cmp x y = int_cmp (x.numerator *ℤ pos y.denominator) (y.numerator *ℤ pos x.denominator)

-- n / d without its common divisor; the sign stays above
unfoldable pub reduced : ℤ → ℕ → Fraction
reduced n d = record { numerator = int_div n (pos (gcd (unsigned_abs n) d)); denominator = d / gcd (unsigned_abs n) d }

-- the fraction n / d as it is written
abbrev pub over : ℤ → ℕ → Fraction
over n d = record { numerator = n; denominator = d }

-- ---- sums and products without a limit, not in lowest terms
abbrev pub plain_sum : Fraction → Fraction → Fraction
plain_sum x y = record { numerator = x.numerator *ℤ pos y.denominator +ℤ y.numerator *ℤ pos x.denominator; denominator = x.denominator * y.denominator }

abbrev pub plain_product : Fraction → Fraction → Fraction
plain_product x y = over (x.numerator *ℤ y.numerator) (x.denominator * y.denominator)

-- the sum of the products of the pairs
abbrev pub plain_dot : List Fraction → List Fraction → Fraction
plain_dot [] ys = whole (pos 0)
plain_dot (x ∷ xs) [] = whole (pos 0)
plain_dot (x ∷ xs) (y ∷ ys) = plain_sum (plain_product x y) (plain_dot xs ys)

abbrev pub IsNotBelowZero : Fraction → Type 0
IsNotBelowZero x = pos 0 ≤ℤ x.numerator

-- the value of x is at most that of y
abbrev pub AtMost : Fraction → Fraction → Type 0
AtMost x y = (x.numerator *ℤ pos y.denominator) ≤ℤ (y.numerator *ℤ pos x.denominator)
