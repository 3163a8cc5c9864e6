-- Gains: rounded down, and within their bound.
use Rattle.std.proofs.Common.{◌≡◌, ℕ, zero, suc, ◌*◌, ◌/◌, ◌<◌, ◌≤◌, ◌≤ℤ◌, List, ℤ, pos, negsuc, ◌*ℤ◌, neg_ℤ, unsigned_abs, ⊎_elim, refl, ap, ◌∙◌, arith}
use Rattle.std.specs.Int.{div_ceil}
use Rattle.std.proofs.Math.Nat.{div-mul-le_self, mul-le-mul_left, mul-le-mul_right}
use Rattle.std.proofs.lemmas.Bool.{cases_lt}
use Rattle.std.proofs.lemmas.Grind.{div_ceil_times}
use Rattle.std.proofs.lemmas.Int.{ints, unsigned_abs-mul}
use Rattle.exact_num.specs.Fraction.{Fraction, IsDefined, AtMost, plain_product, whole}
use Rattle.form.specs.declared.bundles.Bundle.{Bundle}
use Rattle.form.specs.declared.limits.TheConstants.{MAX_OPTIONS}
use Rattle.form.specs.declared.orders.Side.{Side}
use Rattle.form.specs.declared.orders.Side.TheVariants.{Buy, Sell}
use Rattle.form.specs.Payoff.{bundle_legs, count_sizes}
use Rattle.limits.specs.declared.TheConstants.{MAX_GAIN, MAX_PAYOFF}
use Rattle.settlement.specs.Payout.{IsFloor, IsHolding, IsSettledAt, floor_of, gain_of, worth_at, GainsAreRoundedDown}
use Rattle.clearing_model.specs.Clearing.{for_side}
use Rattle.settlement.proofs.Quotients.{above, above_back, ceil_least, floor_greatest}
use Rattle.settlement.proofs.Worth.{worth_small}

-- c times d is not less than n + 1
least_below : (c d n : ℕ) → suc n ≤ c * d → AtMost (whole (neg_ℤ (pos c))) (record { numerator = negsuc n; denominator = d * 1 })
least_below zero d n le = absurd (omega arith)
least_below (suc c) d n le = omega (arith, ints)

-- n / d, whose denominator is written d * 1
floor_is : (n : ℤ) (d : ℕ) → 0 < d → IsFloor (record { numerator = n; denominator = d * 1 }) (floor_of n d)
floor_is (pos n) d some = record {
  not_above = omega (arith, ints, div-mul-le_self n d);
  greatest = greatest;
}
  where
    greatest : (k : ℤ) → AtMost (whole k) (record { numerator = pos n; denominator = d * 1 }) → k ≤ℤ floor_of (pos n) d
    greatest (pos k) le =
        let most = floor_greatest n d k some (omega (arith, ints)) in
        omega (arith, ints)
    greatest (negsuc k) le = omega (arith, ints)
floor_is (negsuc n) d some = record {
  not_above = least_below (div_ceil (suc n) d) d n (div_ceil_times (suc n) d some).0;
  greatest = greatest;
}
  where
    greatest : (k : ℤ) → AtMost (whole k) (record { numerator = negsuc n; denominator = d * 1 }) → k ≤ℤ floor_of (negsuc n) d
    greatest (pos k) le = absurd (omega (arith, ints))
    greatest (negsuc k) le =
        let most = ceil_least (suc n) d (suc k) some (omega (arith, ints)) in
        omega (arith, ints)

pub gains_are_rounded_down : GainsAreRoundedDown
gains_are_rounded_down side fill legs prices defined = floor_is (fill.numerator *ℤ for_side side (worth_at prices legs)) fill.denominator defined

-- what is at most so much of the denominator is rounded down to at most so much
floor_small : (z : ℤ) (d most : ℕ) → 0 < d → unsigned_abs z ≤ most * d → unsigned_abs (floor_of z d) ≤ most
floor_small (pos n) d most some le =
    ⊎_elim
    (λ (above : most < n / d).
    let times = mul-le-mul_right d above in
    let down = div-mul-le_self n d in
    absurd (omega arith))
    (λ (low : n / d ≤ most). low)
    (cases_lt most (n / d))
floor_small (negsuc n) d most some le =
    let least = ceil_least (suc n) d most some le in
    omega (arith, ints)

-- so many options at no more than one pays
pub gain_fits : (x : ℤ) (d sizes size : ℕ) → pos 0 ≤ℤ x → AtMost (plain_product (record { numerator = x; denominator = d }) (whole (pos sizes))) (whole (pos MAX_OPTIONS)) → size ≤ sizes * MAX_PAYOFF
    → AtMost (plain_product (record { numerator = x; denominator = d }) (whole (pos size))) (whole (pos MAX_GAIN))
gain_fits (pos n) d sizes size not_below counted le =
    let few : n * sizes ≤ MAX_OPTIONS * d = above_back n sizes d MAX_OPTIONS counted in
    let most = mul-le-mul_left n le in
    above n size d MAX_GAIN (omega arith)
gain_fits (negsuc n) d sizes size not_below counted le = absurd (omega (arith, ints))

side_size : (side : Side) (w : ℤ) → unsigned_abs (for_side side w) ≡ unsigned_abs w
side_size Buy w = refl
side_size Sell w = omega (arith, ints)

-- no gain is above the limit in size
pub gain_small : (side : Side) (fill : Fraction) (bundle : Bundle) (prices : List ℕ) → IsDefined fill → IsHolding bundle fill → IsSettledAt prices bundle
    → unsigned_abs (gain_of side fill (bundle_legs bundle) prices) ≤ MAX_GAIN
gain_small side fill bundle prices defined held settled =
    by fill.numerator held.not_below_zero (gain_fits fill.numerator fill.denominator (count_sizes bundle) (unsigned_abs w) held.not_below_zero held.counted (worth_small prices bundle settled))
  where
    w : ℤ
    w = worth_at prices (bundle_legs bundle)

    by : (x : ℤ) → pos 0 ≤ℤ x → AtMost (plain_product (record { numerator = x; denominator = fill.denominator }) (whole (pos (unsigned_abs w)))) (whole (pos MAX_GAIN))
        → unsigned_abs (floor_of (x *ℤ for_side side w) fill.denominator) ≤ MAX_GAIN
    by (pos n) not_below fits =
        let size = unsigned_abs-mul (pos n) (for_side side w) ∙ ap (λ k. n * k) (side_size side w) in
        let few = above_back n (unsigned_abs w) fill.denominator MAX_GAIN fits in
        floor_small (pos n *ℤ for_side side w) fill.denominator MAX_GAIN defined (omega (arith, size, few))
    by (negsuc n) not_below fits = absurd (omega (arith, ints))
