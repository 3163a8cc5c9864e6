-- What bundles pay at prices within the limits: each step fits.
use Rattle.std.proofs.Common.{◌≡◌, ℕ, ◌+◌, ◌*◌, ◌≤◌, List, [], ◌∷◌, length, map, zip, get_or, ℤ, pos, negsuc, ◌+ℤ◌, ◌*ℤ◌, unsigned_abs, Result, Ok, Err, refl, ap, ◌∙◌, arith}
use Rattle.std.specs.List.{All, sum}
use Rattle.std.proofs.Math.Nat.{mul-le-mul_left, mul-le-mul_right}
use Rattle.std.proofs.lemmas.Bool.{le-leb}
use Rattle.std.proofs.lemmas.Int.{ints, unsigned_abs-mul}
use Rattle.std.proofs.lemmas.List.Elements.{All-head, All-tail}
use Rattle.std.proofs.lemmas.List.Sums.{sum_by-cons}
use Rattle.exact_num.specs.declared.misfit.Wide.{Wide}
use Rattle.exact_num.specs.Fits.{after, meaning}
use Rattle.exact_num.specs.Fraction.{Fraction, whole}
use Rattle.exact_num.specs.Limit.{limit}
use Rattle.exact_num.specs.Steps.{fold_steps, plus_product}
use Rattle.exact_num.proofs.WholeNumbers.{add-wholes, mul-wholes}
use Rattle.form.specs.declared.bundles.Bundle.{Bundle}
use Rattle.form.specs.declared.legs.Leg.{Leg}
use Rattle.form.specs.declared.limits.TheConstants.{MAX_COUNT, MAX_WEIGHT}
use Rattle.form.specs.Legs.{IsCounted}
use Rattle.form.specs.Limits.{IsListed}
use Rattle.form.specs.Payoff.{bundle_legs, bundle_payoff, count_sizes, dot, leg_of, legs_in, option_of, payoff, positive_part}
use Rattle.form.specs.Steps.{add_entry, add_leg, bundle_payoff_of, or_zero, payoff_of}
use Rattle.form.proofs.SameBundle.{length-legs_in}
use Rattle.limits.specs.declared.TheConstants.{MAX_PAYOFF, MAX_SETTLEMENT_PRICE}
use Rattle.settlement.specs.Payout.{IsSettledAt, worth_at}

-- ---- sums of products, of which the sizes are small together
abbrev pub reach : List ℤ → List ℕ → ℕ
reach [] z = 0
reach (a ∷ v) [] = 0
reach (a ∷ v) (x ∷ z) = unsigned_abs a * x + reach v z

pub plus_fits : (t a b : ℤ) → unsigned_abs t + unsigned_abs (a *ℤ b) ≤ limit → plus_product limit (whole t) (whole a) (whole b) ≡ Ok (whole (t +ℤ (a *ℤ b)))
plus_fits t a b le =
    let product : unsigned_abs (a *ℤ b) ≤ limit = omega arith in
    let first : unsigned_abs t ≤ limit = omega arith in
    let both : unsigned_abs (t +ℤ (a *ℤ b)) ≤ limit = omega (arith, ints) in
    rw (
      mul-wholes limit a b (omega arith),
      le-leb (unsigned_abs (a *ℤ b)) limit product,
      add-wholes limit t (a *ℤ b) (omega arith) first product,
      le-leb (unsigned_abs (t +ℤ (a *ℤ b))) limit both,
    ) refl

dot_fits : (t : ℤ) (v : List ℤ) (z : List ℕ) → unsigned_abs t + reach v z ≤ limit → fold_steps (add_entry limit) (whole t) (zip v z) ≡ Ok (whole (t +ℤ dot v z))
dot_fits t [] z le = ap (λ (d : ℤ). Ok (whole d)) (omega (arith, ints))
dot_fits t (a ∷ v) [] le = ap (λ (d : ℤ). Ok (whole d)) (omega (arith, ints))
dot_fits t (a ∷ v) (x ∷ z) le =
    let size = unsigned_abs-mul a (pos x) in
    let step = plus_fits t a (pos x) (omega arith) in
    ap (λ r. after r (λ next. fold_steps (add_entry limit) next (zip v z))) step
    ∙ dot_fits (t +ℤ (a *ℤ pos x)) v z (omega (arith, ints))
    ∙ ap (λ (d : ℤ). Ok (whole d)) (omega (arith, ints))

dot_small : (v : List ℤ) (z : List ℕ) → unsigned_abs (dot v z) ≤ reach v z
dot_small [] z = omega arith
dot_small (a ∷ v) [] = omega arith
dot_small (a ∷ v) (x ∷ z) = omega (arith, ints, unsigned_abs-mul a (pos x), dot_small v z)

payoff_fits : (v : List ℤ) (z : List ℕ) → reach v z ≤ limit → payoff_of limit v z ≡ Ok (whole (pos (payoff v z)))
unfolding payoff_of
payoff_fits v z le =
    let none : pos 0 +ℤ dot v z ≡ dot v z = omega (arith, ints) in
    ap (λ r. after r (λ sum. Ok (or_zero sum))) (dot_fits (pos 0) v z (omega arith)) ∙ ap (λ (d : ℤ). Ok (whole (pos (positive_part d)))) none

payoff_small : (v : List ℤ) (z : List ℕ) → payoff v z ≤ reach v z
payoff_small v z = below (dot v z) (dot_small v z)
  where
    below : (d : ℤ) → unsigned_abs d ≤ reach v z → positive_part d ≤ reach v z
    below (pos n) le = le
    below (negsuc n) le = omega arith

-- ---- legs
abbrev pub sizes_of : List Leg → ℕ
sizes_of legs = sum (map (λ (leg : Leg). unsigned_abs leg.count) legs)

sizes_more : (leg : Leg) (legs : List Leg) → sizes_of (leg ∷ legs) ≡ unsigned_abs leg.count + sizes_of legs
sizes_more leg legs = sum_by-cons (λ (n : ℕ). n) (unsigned_abs leg.count) (map (λ (leg : Leg). unsigned_abs leg.count) legs)

pub sizes_few : (legs : List Leg) → All IsCounted legs → sizes_of legs ≤ length legs * MAX_COUNT
sizes_few [] counted = omega arith
sizes_few (leg ∷ legs) counted =
    let first = All-head IsCounted leg legs counted in
    omega (arith, sizes_more leg legs, first.1, sizes_few legs (All-tail IsCounted leg legs counted))

module _ (z : List ℕ) where
  abbrev pub IsSmall : Leg → Type 0
  IsSmall leg = reach (option_of leg.form) z ≤ MAX_PAYOFF

  leg_small : (leg : Leg) → IsSmall leg → unsigned_abs (leg.count *ℤ pos (payoff (option_of leg.form) z)) ≤ unsigned_abs leg.count * MAX_PAYOFF
  leg_small leg small =
      let pays : payoff (option_of leg.form) z ≤ MAX_PAYOFF = let low = payoff_small (option_of leg.form) z in omega arith in
      let most = mul-le-mul_left (unsigned_abs leg.count) pays in
      omega (arith, unsigned_abs-mul leg.count (pos (payoff (option_of leg.form) z)))

  pub legs_fit : (t : ℤ) (legs : List Leg) → All IsSmall legs → unsigned_abs t + sizes_of legs * MAX_PAYOFF ≤ limit
      → fold_steps (add_leg limit z) (whole t) (map leg_of legs) ≡ Ok (whole (t +ℤ bundle_payoff (map leg_of legs) z))
  legs_fit t [] small le = ap (λ (d : ℤ). Ok (whole d)) (omega (arith, ints))
  legs_fit t (leg ∷ legs) small le =
      let first = All-head IsSmall leg legs small in
      let pays = payoff_fits (option_of leg.form) z (omega arith) in
      let more = sizes_more leg legs in
      let size = leg_small leg first in
      let amount = leg.count *ℤ pos (payoff (option_of leg.form) z) in
      let step = ap (λ r. after r (λ h. plus_product limit (whole t) (whole leg.count) h)) pays ∙ plus_fits t leg.count (pos (payoff (option_of leg.form) z)) (omega arith) in
      ap (λ r. after r (λ next. fold_steps (add_leg limit z) next (map leg_of legs))) step
      ∙ legs_fit (t +ℤ amount) legs (All-tail IsSmall leg legs small) (omega (arith, ints))
      ∙ ap (λ (d : ℤ). Ok (whole d)) (omega (arith, ints))

  pub legs_small : (legs : List Leg) → All IsSmall legs → unsigned_abs (bundle_payoff (map leg_of legs) z) ≤ sizes_of legs * MAX_PAYOFF
  legs_small [] small = omega arith
  legs_small (leg ∷ legs) small =
      omega (arith, ints, sizes_more leg legs, leg_small leg (All-head IsSmall leg legs small), legs_small legs (All-tail IsSmall leg legs small))

-- ---- options and prices within the limits
weights_small : (weights : List ℤ) (prices : List ℕ) → All (λ w. unsigned_abs w ≤ MAX_WEIGHT) weights → All (λ p. p ≤ MAX_SETTLEMENT_PRICE) prices
    → reach weights prices ≤ length prices * 1000000000000
weights_small [] prices few low = omega arith
weights_small (w ∷ weights) [] few low = omega arith
weights_small (w ∷ weights) (p ∷ prices) few low =
    let weight = mul-le-mul_right p (All-head (λ w. unsigned_abs w ≤ MAX_WEIGHT) w weights few) in
    let price = All-head (λ p. p ≤ MAX_SETTLEMENT_PRICE) p prices low in
    omega (arith, weights_small weights prices (All-tail (λ w. unsigned_abs w ≤ MAX_WEIGHT) w weights few) (All-tail (λ p. p ≤ MAX_SETTLEMENT_PRICE) p prices low))

option_small : (v : List ℤ) (prices : List ℕ) → IsListed v → All (λ p. p ≤ MAX_SETTLEMENT_PRICE) prices → length prices ≤ 8 → reach v (1 ∷ prices) ≤ MAX_PAYOFF
option_small [] prices listed low few = omega arith
option_small (a ∷ v) prices listed low few = omega (arith, listed.strike, weights_small v prices listed.weights low)

module _ (prices : List ℕ) (bundle : Bundle) (settled : IsSettledAt prices bundle) where
  -- the prices are those of 1 to 8 underlyings
  pub prices_few : (1 ≤ length prices) × (length prices ≤ 8)
  prices_few = by_first (legs_in bundle) (omega (arith, length-legs_in bundle, bundle.size_in_range.0)) settled.forms
    where
      by_first : (legs : List Leg) → 1 ≤ length legs → All (λ (leg : Leg). leg.form.count ≡ length prices + 1) legs → (1 ≤ length prices) × (length prices ≤ 8)
      by_first [] some on = absurd (omega arith)
      by_first (leg ∷ legs) some on =
          let count = All-head (λ (leg : Leg). leg.form.count ≡ length prices + 1) leg legs on in
          let range = leg.form.count_in_range in
          (omega (arith, range.0), omega (arith, range.1))

  each_small : All (IsSmall (1 ∷ prices)) (legs_in bundle)
  each_small = λ k leg lt. option_small (option_of (get_or (legs_in bundle) k leg).form) prices (settled.options k leg lt) settled.within prices_few.1

  sizes_fit : count_sizes bundle ≤ 4000
  sizes_fit = omega (arith, sizes_few (legs_in bundle) bundle.counted, length-legs_in bundle, bundle.size_in_range.1)

  -- what it pays there is found without a misfit
  pub worth_fits : bundle_payoff_of limit (bundle_legs bundle) (1 ∷ prices) ≡ Ok (whole (worth_at prices (bundle_legs bundle)))
  unfolding bundle_payoff_of
  worth_fits =
      let few = sizes_fit in
      let none : pos 0 +ℤ worth_at prices (bundle_legs bundle) ≡ worth_at prices (bundle_legs bundle) = omega (arith, ints) in
      legs_fit (1 ∷ prices) (pos 0) (legs_in bundle) each_small (omega arith) ∙ ap (λ (d : ℤ). Ok (whole d)) none

  pub worth_small : unsigned_abs (worth_at prices (bundle_legs bundle)) ≤ count_sizes bundle * MAX_PAYOFF
  worth_small = legs_small (1 ∷ prices) (legs_in bundle) each_small

-- a whole number that was found
pub whole_found : (r : Result ℤ Wide) (w : ℤ) → meaning whole r ≡ Ok (whole w) → r ≡ Ok w
whole_found (Ok h) w e =
    let same : whole h ≡ whole w = cc in
    ap (λ (x : Fraction). Ok x.numerator) same
whole_found (Err misfit) w e = cc
