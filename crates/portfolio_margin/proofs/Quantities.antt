-- The fill of a position, rounded up.
use Rattle.std.proofs.Common.{◌≡◌, ℕ, zero, suc, ◌*◌, ◌<◌, ◌≤◌, ◌≤ℤ◌, List, [], ◌∷◌, length, map, ℤ, pos, negsuc, unsigned_abs, refl, arith, All}
use Rattle.std.specs.List.{sum}
use Rattle.std.proofs.Math.Nat.{mul-le-mul_left}
use Rattle.std.proofs.lemmas.Int.{ints}
use Rattle.std.proofs.lemmas.List.{length-take-le}
use Rattle.std.proofs.lemmas.List.Sums.{sum_by-cons}
use Rattle.std.proofs.lemmas.List.Elements.{All-head}
use Rattle.exact_num.specs.Fraction.{Fraction, AtMost, plain_product, whole}
use Rattle.form.specs.declared.bundles.Bundle.{Bundle}
use Rattle.form.specs.declared.legs.Leg.{Leg}
use Rattle.form.specs.declared.limits.TheConstants.{MAX_OPTIONS, MAX_QUANTITY}
use Rattle.form.specs.Legs.{IsCounted}
use Rattle.form.specs.Payoff.{count_sizes, legs_in}
use Rattle.form.specs.Vector.{positive_part}
use Rattle.settlement.specs.Payout.{IsHolding}
use Rattle.settlement.specs.Premium.{IsOrderFill, rounded_up}
use Rattle.settlement.proofs.Quotients.{above_back, premium_fits, up_fits}

-- a bundle counts some option
size_some : (x : ℤ) → (x ≡ pos 0 → ⊥) → 1 ≤ unsigned_abs x
size_some (pos zero) not = absurd (not refl)
size_some (pos (suc n)) not = omega arith
size_some (negsuc n) not = omega arith

sum_some : (legs : List Leg) → 1 ≤ length legs → All IsCounted legs → 1 ≤ sum (map (λ (leg : Leg). unsigned_abs leg.count) legs)
sum_some [] some counted = absurd (omega (arith, some))
sum_some (leg ∷ legs) some counted =
    let first = size_some leg.count (All-head IsCounted leg legs counted).0 in
    omega (arith, first, sum_by-cons (λ (k : ℕ). k) (unsigned_abs leg.count) (map (λ (leg : Leg). unsigned_abs leg.count) legs))

sizes_some : (bundle : Bundle) → 1 ≤ count_sizes bundle
sizes_some bundle =
    let few : bundle.size ≤ length bundle.legs = omega (arith, bundle.size_in_range.1, bundle.four_legs) in
    sum_some (legs_in bundle) (omega (arith, length-take-le bundle.size bundle.legs few, bundle.size_in_range.0)) bundle.counted

-- so a fill that counts at most so many options is at most as much
pub held_is : (bundle : Bundle) (fill : Fraction) → IsHolding bundle fill → IsOrderFill fill
held_is bundle fill held = record {
  not_below_zero = held.not_below_zero;
  at_most = by fill.numerator held.not_below_zero held.counted;
}
  where
    d : ℕ
    d = fill.denominator

    by : (x : ℤ) → pos 0 ≤ℤ x → AtMost (plain_product (record { numerator = x; denominator = d }) (whole (pos (count_sizes bundle)))) (whole (pos MAX_OPTIONS))
        → AtMost (record { numerator = x; denominator = d }) (whole (pos MAX_QUANTITY))
    by (pos n) low counted =
        let few : n * count_sizes bundle ≤ MAX_OPTIONS * d = above_back n (count_sizes bundle) d MAX_OPTIONS counted in
        let more : n * 1 ≤ n * count_sizes bundle = mul-le-mul_left n (sizes_some bundle) in
        omega (arith, ints, few, more)
    by (negsuc n) low counted = absurd (omega (arith, ints, low))

-- and is so when it is rounded up
pub rounded_small : (fill : Fraction) → 0 < fill.denominator → IsOrderFill fill → rounded_up fill 1 ≤ MAX_QUANTITY
rounded_small fill some held =
    up_fits fill.numerator (positive_part fill.numerator) fill.denominator 1 MAX_QUANTITY some refl (premium_fits fill.numerator fill.denominator 1 held.not_below_zero held.at_most) held.not_below_zero
