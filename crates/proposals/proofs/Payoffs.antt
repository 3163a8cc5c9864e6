-- What bundles within the limits pay at small states: each step fits.
use Rattle.std.proofs.Common.{◌≡◌, ℕ, ◌*◌, ◌≤◌, List, [], ◌∷◌, map, replicate, get_or, zero, suc, ℤ, pos, ◌+ℤ◌, unsigned_abs, Ok, refl, ap, ◌∙◌, arith}
use Rattle.std.specs.List.{All}
use Rattle.std.proofs.Math.Nat.{mul-le-mul}
use Rattle.std.proofs.lemmas.Int.{ints}
use Rattle.std.proofs.lemmas.List.Elements.{All-head}
use Rattle.exact_num.specs.Fraction.{whole}
use Rattle.frac.specs.Range.{limit}
use Rattle.form.specs.declared.limits.TheConstants.{MAX_STRIKE, MAX_WEIGHT}
use Rattle.form.specs.declared.orders.Order.{Order}
use Rattle.form.specs.Limits.{IsListed, IsOrderWithin}
use Rattle.form.specs.Payoff.{bundle_of, bundle_payoff, leg_of, legs_in, option_of}
use Rattle.form.specs.Steps.{bundle_payoff_of}
use Rattle.form.proofs.SameBundle.{length-legs_in}
use Rattle.limits.specs.declared.TheConstants.{MAX_PAYOFF}
use Rattle.settlement.proofs.Worth.{IsSmall, legs_fit, legs_small, reach, sizes_few, sizes_of}

-- what a bundle pays at a state, which fits and is small
pub record Pays (order : Order) (z : List ℕ) : Type 0 where
  pub fits : bundle_payoff_of limit (bundle_of order) z ≡ Ok (whole (bundle_payoff (bundle_of order) z))
  pub small : unsigned_abs (bundle_payoff (bundle_of order) z) ≤ 4000 * MAX_PAYOFF

-- the sizes of each option's entries times those of the state are small together
abbrev pub IsSmallAt : List ℕ → Type 0
IsSmallAt z = (v : List ℤ) → IsListed v → reach v z ≤ MAX_PAYOFF

pub pays : (order : Order) (z : List ℕ) → IsOrderWithin order → IsSmallAt z → Pays order z
unfolding bundle_of bundle_payoff_of
pays order z within small =
    let legs = legs_in order.bundle in
    let each : All (IsSmall z) legs = λ k leg lt. small (option_of (get_or legs k leg).form) (within.options k leg lt) in
    let few = sizes_few legs order.bundle.counted in
    let sizes : sizes_of legs ≤ 4000 = omega (arith, few, length-legs_in order.bundle, order.bundle.size_in_range.1) in
    let none : pos 0 +ℤ bundle_payoff (map leg_of legs) z ≡ bundle_payoff (map leg_of legs) z = omega (arith, ints) in
    record {
      fits = legs_fit z (pos 0) legs each (omega arith) ∙ ap (λ (d : ℤ). Ok (whole d)) none;
      small = omega (arith, legs_small z legs each);
    }

-- ---- the states at which it is asked
reach_nothing : (v : List ℤ) (n : ℕ) → reach v (replicate n 0) ≡ 0
reach_nothing [] n = refl
reach_nothing (a ∷ v) zero = refl
reach_nothing (a ∷ v) (suc n) = omega (arith, reach_nothing v n)

-- all prices 0
pub small_at_zero : (n : ℕ) → IsSmallAt (1 ∷ replicate n 0)
small_at_zero n [] listed = omega arith
small_at_zero n (a ∷ v) listed = omega (arith, listed.strike, reach_nothing v n)

reach_end : (v : List ℤ) → reach v [] ≡ 0
reach_end [] = refl
reach_end (a ∷ v) = refl

-- a weight and a strike on one underlying
pub small_on_line : (t s : ℕ) → t ≤ MAX_WEIGHT → s ≤ MAX_STRIKE → IsSmallAt (t ∷ s ∷ [])
small_on_line t s low few [] listed = omega arith
small_on_line t s low few (a ∷ []) listed =
    let first = mul-le-mul listed.strike low in
    omega (arith, first)
small_on_line t s low few (a ∷ w ∷ v) listed =
    let first = mul-le-mul listed.strike low in
    let second = mul-le-mul (All-head (λ w. unsigned_abs w ≤ MAX_WEIGHT) w v listed.weights) few in
    omega (arith, first, second, reach_end v)
