-- The tests of fractions.
use Rattle.std.specs.Prelude.{Bool, if◌then◌else◌, int_lt, int_le, ◌&&◌, nat_eq, nat_lt, unsigned_abs, pos, ◌*ℤ◌}
use Rattle.std.specs.Ordering.{is_eq}
use Rattle.arithmetic.specs.Gcd.{gcd}
use Rattle.exact_num.specs.Fraction.{Fraction, fraction_cmp}

-- whether two fractions have the same value
abbrev pub is_same : Fraction → Fraction → Bool
is_same x y = is_eq (fraction_cmp x y)

-- whether the value of x is at most that of y
abbrev pub is_at_most : Fraction → Fraction → Bool
is_at_most x y = int_le (x.numerator *ℤ pos y.denominator) (y.numerator *ℤ pos x.denominator)

-- the one of the greater value
abbrev pub greater_of : Fraction → Fraction → Fraction
greater_of x y = if is_at_most x y then y else x

abbrev pub is_above_zero : Fraction → Bool
is_above_zero x = int_lt (pos 0) x.numerator

abbrev pub is_below_zero : Fraction → Bool
is_below_zero x = int_lt x.numerator (pos 0)

abbrev pub is_not_below_zero : Fraction → Bool
is_not_below_zero x = int_le (pos 0) x.numerator

-- whether it is in lowest terms
abbrev pub is_lowest : Fraction → Bool
is_lowest x = nat_lt 0 x.denominator && nat_eq (gcd (unsigned_abs x.numerator) x.denominator) 1
