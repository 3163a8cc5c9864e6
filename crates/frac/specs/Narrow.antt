-- The fraction that a value of 64 bits means.
use Rattle.std.specs.Prelude.{◌≡◌, ℕ}
use Rattle.std.proofs.Math.Path.{to_path_p}
use Rattle.std.proofs.Math.Bridge.{le_prop}
use Rattle.exact_num.proofs.Values.{lowest_prop}
use Rattle.exact_num.specs.Fraction.{Fraction, IsLowest, over, fraction_cmp}
use Rattle.exact_num.specs.Laws.{IsWithin}
use Rattle.std.specs.declared.cmp.Ordering.{Ordering}
use Rattle.frac.specs.declared.frac64.Frac64.{Frac64}
use Rattle.frac.specs.Range.{narrow_limit}

within_prop : (limit : ℕ) (x : Fraction) → IsProp (IsWithin limit x)
within_prop limit x p q = λ i. record { above = le_prop p.above q.above i; below = le_prop p.below q.below i }

abbrev pub narrow_fraction : Frac64 → Fraction
narrow_fraction x = over x.numerator x.denominator

-- the order of two values
abbrev pub narrow_order : Frac64 → Frac64 → Ordering
narrow_order x y = fraction_cmp (narrow_fraction x) (narrow_fraction y)

-- two values of one fraction are one value
pub same_narrow_value : (x y : Frac64) → narrow_fraction x ≡ narrow_fraction y → x ≡ y
same_narrow_value x y e = λ i. record {
  numerator = (e i).numerator;
  denominator = (e i).denominator;
  lowest = to_path_p (λ i. IsLowest (e i)) {a = x.lowest} {b = y.lowest} (lowest_prop _ _ _) i;
  within = to_path_p (λ i. IsWithin narrow_limit (e i)) {a = x.within} {b = y.within} (within_prop _ _ _ _) i;
}
