-- The fraction that a value of 128 bits means.
use Rattle.std.specs.Prelude.{◌≡◌, ◌<◌, ◌^◌, unsigned_abs}
use Rattle.std.proofs.Math.Path.{to_path_p}
use Rattle.std.proofs.Math.Bridge.{le_prop}
use Rattle.exact_num.proofs.Values.{lowest_prop}
use Rattle.exact_num.specs.Fraction.{Fraction, IsLowest, over, fraction_cmp}
use Rattle.std.specs.declared.cmp.Ordering.{Ordering}
use Rattle.frac.specs.declared.frac128.Frac128.{Frac128}

abbrev pub fraction_of : Frac128 → Fraction
fraction_of x = over x.numerator x.denominator

-- the order of two values
abbrev pub order_of : Frac128 → Frac128 → Ordering
order_of x y = fraction_cmp (fraction_of x) (fraction_of y)

-- two values of one fraction are one value
pub same_value : (x y : Frac128) → fraction_of x ≡ fraction_of y → x ≡ y
same_value x y e = λ i. record {
  numerator = (e i).numerator;
  denominator = (e i).denominator;
  lowest = to_path_p (λ i. IsLowest (e i)) {a = x.lowest} {b = y.lowest} (lowest_prop _ _ _) i;
  above_fits = to_path_p (λ i. unsigned_abs (e i).numerator < 2 ^ 127) {a = x.above_fits} {b = y.above_fits} (le_prop _ _) i;
  below_fits = to_path_p (λ i. (e i).denominator < 2 ^ 127) {a = x.below_fits} {b = y.below_fits} (le_prop _ _) i;
}
