-- The value of a fraction, for definitions that make values.
use Rattle.std.specs.Prelude.{◌≡◌, refl, ◌^◌, ◌&&◌, Bool, true, false, nat_eq, nat_lt, Option, Some, None, pos, unsigned_abs, if◌then◌else◌}
use Rattle.std.proofs.Common.{lit≤}
use Rattle.std.proofs.lemmas.Bool.{and_parts, eqb-true, ltb-true}
use Rattle.arithmetic.specs.Gcd.{gcd}
use Rattle.exact_num.specs.Fraction.{Fraction}
use Rattle.exact_num.specs.Tests.{is_lowest}
use Rattle.exact_num.proofs.Values.{whole_is_lowest}
use Rattle.frac.specs.declared.frac128.Frac128.{Frac128}

-- whether its parts are of 128 bits
abbrev pub has_128_bits : Fraction → Bool
has_128_bits x = nat_lt (unsigned_abs x.numerator) (2 ^ 127) && nat_lt x.denominator (2 ^ 127)

-- the value, where it is one
abbrev pub proper_value : (x : Fraction) → (is_lowest x && has_128_bits x) ≡ true → Frac128
proper_value x e =
    let parts = and_parts (is_lowest x) (has_128_bits x) e in
    let lowest = and_parts (nat_lt 0 x.denominator) (nat_eq (gcd (unsigned_abs x.numerator) x.denominator) 1) parts.0 in
    let fits = and_parts (nat_lt (unsigned_abs x.numerator) (2 ^ 127)) (nat_lt x.denominator (2 ^ 127)) parts.1 in
    record {
      numerator = x.numerator;
      denominator = x.denominator;
      lowest = record { positive = ltb-true _ _ lowest.0; coprime = eqb-true _ _ lowest.1 };
      above_fits = ltb-true _ _ fits.0;
      below_fits = ltb-true _ _ fits.1;
    }

abbrev pub zero_128 : Frac128
zero_128 = record {
  numerator = pos 0;
  denominator = 1;
  lowest = whole_is_lowest (pos 0);
  above_fits = lit≤ tt;
  below_fits = lit≤ tt;
}

abbrev pub value_or_zero : (x : Fraction) (b : Bool) → (is_lowest x && has_128_bits x) ≡ b → Frac128
value_or_zero x true e = proper_value x e
value_or_zero x false e = zero_128

-- the value of a fraction in lowest terms whose parts are of 128 bits, and 0 for any other
unfoldable pub value_of : Fraction → Frac128
value_of x = value_or_zero x (is_lowest x && has_128_bits x) refl

-- the value, where the fraction is in lowest terms and its parts are of 128 bits
abbrev pub value_from : Fraction → Option Frac128
value_from x = if is_lowest x && has_128_bits x then Some (value_of x) else None
