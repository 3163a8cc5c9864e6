-- On one underlying no state of the box is exposed to more than the greatest exposure: between two
-- states between which no payoff bends, what is owed is linear, and what may be lost convex.
use Rattle.std.proofs.Common.{◌≡◌, ℕ, zero, suc, ◌+◌, ◌-◌, ◌*◌, ◌≤◌, Bool, true, false, not, ◌&&◌, cond, List, [], ◌∷◌, ◌++◌, map, filter, nat_abs, arith, ℤ, pos, negsuc, ◌+ℤ◌, ◌*ℤ◌, ◌≤ℤ◌, ◌<ℤ◌, refl, ap, ◌∙◌}
use Rattle.std.specs.Prelude.{nat_le, int_lt}
use Rattle.std.specs.List.{flat_map}
use Rattle.std.proofs.lemmas.Bool.{and_parts, le-leb, leb-true, not-false}
use Rattle.std.proofs.lemmas.Bool.Decides.{Decides-int_eq}
use Rattle.std.proofs.lemmas.Int.{ints}
use Rattle.std.proofs.lemmas.List.Elements.{All-head}
use native.Mathlib.Nat.{mul-le-mul_left}
use Rattle.arithmetic.specs.Sums.{positive_part}
use Rattle.arithmetic.proofs.Integers.{*ℤ_mono, *ℤ_cancel_le}
use Rattle.arithmetic.proofs.Parts.{positive_part_above, positive_part_least}
use Rattle.arithmetic.proofs.Products.{products}
use Rattle.arithmetic.proofs.Tests.{int_lt-no, int_lt-true, int_lt-yes}
use Rattle.exact_num.specs.Fraction.{Fraction, AtMost, IsDefined}
use Rattle.form.specs.declared.orders.Order.{Order}
use Rattle.form.specs.declared.orders.Side.{Side}
use Rattle.form.specs.declared.orders.Side.TheVariants.{Buy, Sell}
use Rattle.form.specs.Payoff.{BundleLeg, bundle_legs, bundle_payoff, payoff, scale_of}
use Rattle.form.specs.Vector.{strike_entry}
use Rattle.clearing_model.specs.Line.{weight_entry}
use Rattle.market_laws.proofs.Payoff.{bundle_payoff-scale, dot-scale, part-scale}
use Rattle.limits.specs.declared.TheConstants.{MAX_SETTLEMENT_PRICE}
use Rattle.account_need.specs.Exposure.{cost_at, cost_by, losses_at, loss_at}
use Rattle.account_need.specs.Rounded.{OptionSum, Summed, option_in, options_of, owed_of, rounded_exposure, unit}
use Rattle.account_need.specs.Line.{bend_of, bends, bends_in, exposure_at, greatest_exposure, highest_state, lowest_state, options_in}
use Rattle.account_need.specs.Laws.{GreatestBounds}
use Rattle.account_need.specs.Prices.{is_due, turning_in, turning_live, turning_sums}
use Rattle.account_need.specs.Several.{counts_once, has_plain_legs, if_buy_then, if_sell, is_by_itself}
use Rattle.account_need.proofs.Greatest.{none_above}
use Rattle.account_need.proofs.PlainBuys.{plain_loses}
use Rattle.market_laws.proofs.Line.{Each, at, part_combined}
use Rattle.account_need.proofs.Narrow.{AgreesAt, Between, HoldsAtBend, IsOfDirections, agree_all, dot-pair}

-- ---- multiples of a state
payoff-scale : (k : ℕ) (v : List ℤ) (z : List ℕ) → payoff v (map (λ x. k * x) z) ≡ k * payoff v z
payoff-scale k v z = ap positive_part (dot-scale k v z) ∙ part-scale _ k

owed-scale : (k : ℕ) (sums : List OptionSum) (z : List ℕ) → owed_of (map (λ x. k * x) z) sums ≡ owed_of z sums *ℤ pos k
owed-scale k [] z = omega (arith, ints)
owed-scale k (s ∷ sums) z =
    let e = ap (λ (n : ℕ). s.sum *ℤ pos n) (payoff-scale k s.option z) in
    omega (arith, ints, products, e, owed-scale k sums z)

cost-scale : (side : Side) (price k t : ℕ) (x : ℤ) → cost_by side (price * (k * t)) (x *ℤ pos k) ≡ cost_by side (price * t) x *ℤ pos k
cost-scale Buy price k t x = omega (arith, ints, products)
cost-scale Sell price k t x = omega (arith, ints, products)

loss-scale : (k t : ℕ) (s : List ℕ) (o : Order) → loss_at ((k * t) ∷ map (λ x. k * x) s) o ≡ k * loss_at (t ∷ s) o
loss-scale k t s o =
    let pays = bundle_payoff-scale k (bundle_legs o.bundle) (t ∷ s) in
    ap positive_part (ap (cost_by o.side (o.price * (k * t))) pays ∙ cost-scale o.side o.price k t (bundle_payoff (bundle_legs o.bundle) (t ∷ s)))
    ∙ part-scale (cost_at (t ∷ s) o) k

losses-scale : (k t : ℕ) (s : List ℕ) (live : List Order) → losses_at ((k * t) ∷ map (λ x. k * x) s) live ≡ k * losses_at (t ∷ s) live
losses-scale k t s [] = omega arith
losses-scale k t s (o ∷ live) = omega (arith, ap (λ (n : ℕ). o.quantity * n) (loss-scale k t s o), losses-scale k t s live)

exposure-scale : (p : Summed) (k t s : ℕ) → rounded_exposure p ((k * t) ∷ (k * s) ∷ []) ≡ rounded_exposure p (t ∷ s ∷ []) *ℤ pos k
exposure-scale p k t s =
    omega (arith, ints, products, owed-scale k p.sums (t ∷ s ∷ []), losses-scale k t (s ∷ []) p.live)

-- ---- between two states
each_parts : {A : Type 0} (P : A → Type 0) (xs ys : List A) → Each P (xs ++ ys) → Each P xs × Each P ys
each_parts P [] ys h = (tt, h)
each_parts P (x ∷ xs) ys h =
    let rest = each_parts P xs ys h.1 in
    ((h.0, rest.0), rest.1)

part_convex : (c x y : ℤ) (k i j : ℕ) → (c *ℤ pos k) ≤ℤ ((x *ℤ pos i) +ℤ (y *ℤ pos j)) → k * positive_part c ≤ i * positive_part x + j * positive_part y
part_convex c x y k i j le =
    let most = positive_part_least (c *ℤ pos k) (i * positive_part x + j * positive_part y) (omega (arith, ints, le, *ℤ_mono i x (pos (positive_part x)) (positive_part_above x), *ℤ_mono j y (pos (positive_part y)) (positive_part_above y))) in
    omega (arith, most, part-scale c k)

-- a multiple that is not below 0 is as convex
times_convex : (c : ℤ) (h h1 h2 k i j : ℕ) → pos 0 ≤ℤ c → k * h ≤ i * h1 + j * h2 → ((c *ℤ pos h) *ℤ pos k) ≤ℤ (((c *ℤ pos h1) *ℤ pos i) +ℤ ((c *ℤ pos h2) *ℤ pos j))
times_convex (pos n) h h1 h2 k i j some le = omega (arith, ints, products, mul-le-mul_left n le)
times_convex (negsuc n) h h1 h2 k i j some le = absurd (omega (arith, ints, some))

module _ (t s p q p' q' k i j : ℕ) (first : k * t ≡ i * p + j * p') (second : k * s ≡ i * q + j * q') where
  z0 : List ℕ
  z0 = t ∷ s ∷ []

  z1 : List ℕ
  z1 = p ∷ q ∷ []

  z2 : List ℕ
  z2 = p' ∷ q' ∷ []

  at_between : (a b : ℤ) → at a b t s *ℤ pos k ≡ (at a b p q *ℤ pos i) +ℤ (at a b p' q' *ℤ pos j)
  at_between a b =
      omega (arith, ints, products, ap (λ (n : ℕ). a *ℤ pos n) first, ap (λ (n : ℕ). b *ℤ pos n) second)

  pays_between : (v : List ℤ) → AgreesAt p q p' q' v → k * payoff v z0 ≡ i * payoff v z1 + j * payoff v z2
  unfolding z0 z1 z2
  pays_between v agrees =
      let a = strike_entry v in
      let b = weight_entry v in
      let scaled = part-scale (at a b t s) k in
      let linear = ap positive_part (at_between a b) ∙ part_combined (at a b p q) (at a b p' q') i j agrees in
      rw (dot-pair v t s, dot-pair v p q, dot-pair v p' q') (omega (arith, scaled, linear))

  -- wherever an option bends, it bends up
  pays_convex : (v : List ℤ) → k * payoff v z0 ≤ i * payoff v z1 + j * payoff v z2
  unfolding z0 z1 z2
  pays_convex v =
      let a = strike_entry v in
      let b = weight_entry v in
      let between = at_between a b in
      rw (dot-pair v t s, dot-pair v p q, dot-pair v p' q') (part_convex (at a b t s) (at a b p q) (at a b p' q') k i j (omega (arith, ints, between)))

  owed_between : (sums : List OptionSum) → Each (AgreesAt p q p' q') (turning_sums sums) → (owed_of z0 sums *ℤ pos k) ≤ℤ ((owed_of z1 sums *ℤ pos i) +ℤ (owed_of z2 sums *ℤ pos j))
  owed_between [] agrees = omega (arith, ints)
  owed_between (x ∷ sums) agrees = by (is_due x) refl agrees (owed_between sums)
    where
      all : (here0 here1 here2 rest0 rest1 rest2 : ℤ) → (here0 *ℤ pos k) ≤ℤ ((here1 *ℤ pos i) +ℤ (here2 *ℤ pos j)) → (rest0 *ℤ pos k) ≤ℤ ((rest1 *ℤ pos i) +ℤ (rest2 *ℤ pos j))
          → ((here0 +ℤ rest0) *ℤ pos k) ≤ℤ (((here1 +ℤ rest1) *ℤ pos i) +ℤ ((here2 +ℤ rest2) *ℤ pos j))
      all here0 here1 here2 rest0 rest1 rest2 here rest = omega (arith, ints, products, here, rest)

      by : (b : Bool) → is_due x ≡ b → Each (AgreesAt p q p' q') (map option_in (cond b (x ∷ filter is_due sums) (filter is_due sums)))
          → (Each (AgreesAt p q p' q') (turning_sums sums) → (owed_of z0 sums *ℤ pos k) ≤ℤ ((owed_of z1 sums *ℤ pos i) +ℤ (owed_of z2 sums *ℤ pos j)))
          → (owed_of z0 (x ∷ sums) *ℤ pos k) ≤ℤ ((owed_of z1 (x ∷ sums) *ℤ pos i) +ℤ (owed_of z2 (x ∷ sums) *ℤ pos j))
      by true e agrees rest =
          let linear = ap (λ (n : ℕ). x.sum *ℤ pos n) (pays_between x.option agrees.0) in
          all _ _ _ (owed_of z0 sums) (owed_of z1 sums) (owed_of z2 sums) (omega (arith, ints, products, linear)) (rest agrees.1)
      by false e agrees rest =
          let here = times_convex x.sum (payoff x.option z0) (payoff x.option z1) (payoff x.option z2) k i j (int_lt-no x.sum (pos 0) e) (pays_convex x.option) in
          all _ _ _ (owed_of z0 sums) (owed_of z1 sums) (owed_of z2 sums) here (rest agrees)

  bundle_between : (legs : List BundleLeg) → Each (AgreesAt p q p' q') (options_of legs) → bundle_payoff legs z0 *ℤ pos k ≡ (bundle_payoff legs z1 *ℤ pos i) +ℤ (bundle_payoff legs z2 *ℤ pos j)
  bundle_between [] agrees = omega (arith, ints)
  bundle_between (leg ∷ legs) agrees =
      let e = ap (λ (n : ℕ). leg.count *ℤ pos n) (pays_between leg.option agrees.0) in
      omega (arith, ints, products, e, bundle_between legs agrees.1)

  cost_between : (side : Side) (price : ℕ) (x y w : ℤ) → x *ℤ pos k ≡ (y *ℤ pos i) +ℤ (w *ℤ pos j)
      → (cost_by side (price * t) x *ℤ pos k) ≤ℤ ((cost_by side (price * p) y *ℤ pos i) +ℤ (cost_by side (price * p') w *ℤ pos j))
  cost_between Buy price x y w e = omega (arith, ints, products, e)
  cost_between Sell price x y w e = omega (arith, ints, products, e, ap (λ (n : ℕ). price * n) first)

  -- what one bundle may lose
  abbrev Loses : Side → ℕ → List BundleLeg → Type 0
  Loses side price legs =
      k * positive_part (cost_by side (price * t) (bundle_payoff legs z0))
      ≤ i * positive_part (cost_by side (price * p) (bundle_payoff legs z1)) + j * positive_part (cost_by side (price * p') (bundle_payoff legs z2))

  -- of a bundle that bends down
  own_between : (side : Side) (price : ℕ) (legs : List BundleLeg) → Each (AgreesAt p q p' q') (options_of legs) → Loses side price legs
  own_between side price legs agrees =
      part_convex (cost_by side (price * t) (bundle_payoff legs z0)) (cost_by side (price * p) (bundle_payoff legs z1)) (cost_by side (price * p') (bundle_payoff legs z2)) k i j
      (cost_between side price (bundle_payoff legs z0) (bundle_payoff legs z1) (bundle_payoff legs z2) (bundle_between legs agrees))

  -- and of the others
  single_between : (price : ℕ) (legs : List BundleLeg) → counts_once legs ≡ true → Loses Sell price legs
  single_between price [] e = absurd (cc)
  single_between price (leg ∷ []) e =
      let one : leg.count ≡ pos 1 = (Decides-int_eq leg.count (pos 1)).0 e in
      let here = times_convex leg.count (payoff leg.option z0) (payoff leg.option z1) (payoff leg.option z2) k i j (omega (arith, ints, one)) (pays_convex leg.option) in
      part_convex (cost_by Sell (price * t) (bundle_payoff (leg ∷ []) z0)) (cost_by Sell (price * p) (bundle_payoff (leg ∷ []) z1)) (cost_by Sell (price * p') (bundle_payoff (leg ∷ []) z2)) k i j
      (omega (arith, ints, products, here, ap (λ (n : ℕ). price * n) first))
  single_between price (leg ∷ next ∷ legs) e = absurd (cc)

  plain_between : (side : Side) (price : ℕ) (legs : List BundleLeg) → (not (if_sell side (counts_once legs)) && not (if_buy_then side (has_plain_legs legs))) ≡ false → Loses side price legs
  plain_between Buy price legs e =
      let none = plain_loses Buy legs (price * t) z0 (not-false (has_plain_legs legs) e) in
      omega (arith, ap (λ (n : ℕ). k * n) none)
  plain_between Sell price legs e = single_between price legs (single (counts_once legs) e)
    where
      single : (b : Bool) → (not b && true) ≡ false → b ≡ true
      single true e = refl
      single false e = absurd (cc)

  losses_between : (live : List Order) → Each (AgreesAt p q p' q') (turning_live live) → k * losses_at z0 live ≤ i * losses_at z1 live + j * losses_at z2 live
  unfolding z0 z1 z2
  losses_between [] agrees = omega arith
  losses_between (o ∷ live) agrees = by (is_by_itself o) refl agrees (losses_between live)
    where
      all : (here0 here1 here2 rest0 rest1 rest2 : ℕ) → k * here0 ≤ i * here1 + j * here2 → k * rest0 ≤ i * rest1 + j * rest2
          → k * (o.quantity * here0 + rest0) ≤ i * (o.quantity * here1 + rest1) + j * (o.quantity * here2 + rest2)
      all here0 here1 here2 rest0 rest1 rest2 here rest = omega (arith, mul-le-mul_left o.quantity here, rest)

      by : (b : Bool) → is_by_itself o ≡ b → Each (AgreesAt p q p' q') (flat_map (λ (o : Order). options_of (bundle_legs o.bundle)) (cond b (o ∷ filter is_by_itself live) (filter is_by_itself live)))
          → (Each (AgreesAt p q p' q') (turning_live live) → k * losses_at z0 live ≤ i * losses_at z1 live + j * losses_at z2 live)
          → k * losses_at z0 (o ∷ live) ≤ i * losses_at z1 (o ∷ live) + j * losses_at z2 (o ∷ live)
      by true e agrees rest =
          let parts = each_parts (AgreesAt p q p' q') (options_of (bundle_legs o.bundle)) (turning_live live) agrees in
          all (loss_at z0 o) (loss_at z1 o) (loss_at z2 o) (losses_at z0 live) (losses_at z1 live) (losses_at z2 live) (own_between o.side o.price (bundle_legs o.bundle) parts.0) (rest parts.1)
      by false e agrees rest =
          all (loss_at z0 o) (loss_at z1 o) (loss_at z2 o) (losses_at z0 live) (losses_at z1 live) (losses_at z2 live) (plain_between o.side o.price (bundle_legs o.bundle) e) (rest agrees)

  pub exposure_between : (m : Summed) → Each (AgreesAt p q p' q') (turning_in m)
      → (rounded_exposure m (t ∷ s ∷ []) *ℤ pos k) ≤ℤ ((rounded_exposure m (p ∷ q ∷ []) *ℤ pos i) +ℤ (rounded_exposure m (p' ∷ q' ∷ []) *ℤ pos j))
  unfolding z0 z1 z2
  exposure_between m agrees =
      let parts = each_parts (AgreesAt p q p' q') (turning_sums m.sums) (turning_live m.live) agrees in
      omega (arith, ints, products, owed_between m.sums parts.0, mul-le-mul_left unit (losses_between m.live parts.1))

-- ---- the states of the list
abs_some : (a b : ℤ) → (a *ℤ b) <ℤ pos 0 → 1 ≤ nat_abs b
abs_some a (pos zero) h = absurd (omega (arith, ints, h))
abs_some a (pos (suc n)) h = omega arith
abs_some a (negsuc n) h = omega arith

pub bends_parts : (v : List ℤ) → bends v ≡ true → ((strike_entry v *ℤ weight_entry v) <ℤ pos 0) × (nat_abs (strike_entry v) ≤ MAX_SETTLEMENT_PRICE * nat_abs (weight_entry v))
bends_parts v e =
    let parts = and_parts (int_lt (strike_entry v *ℤ weight_entry v) (pos 0)) (nat_le (nat_abs (strike_entry v)) (MAX_SETTLEMENT_PRICE * nat_abs (weight_entry v))) e in
    (int_lt-yes (strike_entry v *ℤ weight_entry v) (pos 0) parts.0, leb-true (nat_abs (strike_entry v)) (MAX_SETTLEMENT_PRICE * nat_abs (weight_entry v)) parts.1)

pub bends_scale : (v : List ℤ) → bends v ≡ true → 1 ≤ nat_abs (weight_entry v)
bends_scale v e = abs_some (strike_entry v) (weight_entry v) (bends_parts v e).0

pub bends_so : (v : List ℤ) → (strike_entry v *ℤ weight_entry v) <ℤ pos 0 → nat_abs (strike_entry v) ≤ MAX_SETTLEMENT_PRICE * nat_abs (weight_entry v) → bends v ≡ true
bends_so v signs inside =
    let a : int_lt (strike_entry v *ℤ weight_entry v) (pos 0) ≡ true = int_lt-true (strike_entry v *ℤ weight_entry v) (pos 0) signs in
    let b = le-leb (nat_abs (strike_entry v)) (MAX_SETTLEMENT_PRICE * nat_abs (weight_entry v)) inside in
    rw (a, b) refl

-- what holds of all options holds of those where the exposure may be greatest
module _ (P : List ℤ → Type 0) where
  each_joined : (xs ys : List (List ℤ)) → Each P xs → Each P ys → Each P (xs ++ ys)
  each_joined [] ys h h' = h'
  each_joined (x ∷ xs) ys h h' = (h.0, each_joined xs ys h.1 h')

  each_due : (sums : List OptionSum) → Each P (map option_in sums) → Each P (turning_sums sums)
  each_due [] h = tt
  each_due (x ∷ sums) h = by (is_due x) (each_due sums h.1)
    where
      by : (b : Bool) → Each P (turning_sums sums) → Each P (map option_in (cond b (x ∷ filter is_due sums) (filter is_due sums)))
      by true rest = (h.0, rest)
      by false rest = rest

  each_live : (live : List Order) → Each P (flat_map (λ (o : Order). options_of (bundle_legs o.bundle)) live) → Each P (turning_live live)
  each_live [] h = tt
  each_live (o ∷ live) h = by (is_by_itself o) (each_parts P (options_of (bundle_legs o.bundle)) (flat_map (λ (o : Order). options_of (bundle_legs o.bundle)) live) h) (each_live live)
    where
      by : (b : Bool) → Each P (options_of (bundle_legs o.bundle)) × Each P (flat_map (λ (o : Order). options_of (bundle_legs o.bundle)) live)
          → (Each P (flat_map (λ (o : Order). options_of (bundle_legs o.bundle)) live) → Each P (turning_live live))
          → Each P (flat_map (λ (o : Order). options_of (bundle_legs o.bundle)) (cond b (o ∷ filter is_by_itself live) (filter is_by_itself live)))
      by true parts rest = each_joined (options_of (bundle_legs o.bundle)) (turning_live live) parts.0 (rest parts.1)
      by false parts rest = rest parts.1

  pub each_turning : (m : Summed) → Each P (options_in m) → Each P (turning_in m)
  each_turning m h =
      let parts = each_parts P (map option_in m.sums) (flat_map (λ (o : Order). options_of (bundle_legs o.bundle)) m.live) h in
      each_joined (turning_sums m.sums) (turning_live m.live) (each_due m.sums parts.0) (each_live m.live parts.1)

module _ (m : Summed) (S : Fraction) where
  -- the exposure at the price s / t is at most S
  abbrev pub Holds : ℕ → ℕ → Type 0
  Holds t s = (rounded_exposure m (t ∷ s ∷ []) *ℤ pos S.denominator) ≤ℤ (S.numerator *ℤ pos (unit * t))

  of_directions : IsOfDirections Holds
  of_directions = record {
    up = λ k t s one h.
        let scaled = exposure-scale m k t s in
        omega (arith, ints, products, ap (λ (x : ℤ). x *ℤ pos S.denominator) scaled, *ℤ_mono k (rounded_exposure m (t ∷ s ∷ []) *ℤ pos S.denominator) (S.numerator *ℤ pos (unit * t)) h);
    down = λ k t s one h.
        let scaled = exposure-scale m k t s in
        *ℤ_cancel_le k (rounded_exposure m (t ∷ s ∷ []) *ℤ pos S.denominator) (S.numerator *ℤ pos (unit * t)) one
        (omega (arith, ints, products, ap (λ (x : ℤ). x *ℤ pos S.denominator) scaled, h));
  }

  -- between the two ends of the box
  start : (t x : ℕ) → x ≤ MAX_SETTLEMENT_PRICE * t → Holds 1 0 → Holds 1 MAX_SETTLEMENT_PRICE → Between Holds t x
  start t x low first last = record {
    p = 1;
    q = 0;
    p' = 1;
    q' = MAX_SETTLEMENT_PRICE;
    k = MAX_SETTLEMENT_PRICE;
    i = MAX_SETTLEMENT_PRICE * t - x;
    j = x;
    one = omega arith;
    first = omega (arith, low);
    second = omega arith;
    some = omega arith;
    some' = omega arith;
    low = omega arith;
    low' = omega arith;
    holds = first;
    holds' = last;
  }

  combined : (C C1 C2 n : ℤ) (d t p p' k i j : ℕ) → 1 ≤ k → k * t ≡ i * p + j * p' → (C *ℤ pos k) ≤ℤ ((C1 *ℤ pos i) +ℤ (C2 *ℤ pos j))
      → (C1 *ℤ pos d) ≤ℤ (n *ℤ pos (unit * p)) → (C2 *ℤ pos d) ≤ℤ (n *ℤ pos (unit * p')) → (C *ℤ pos d) ≤ℤ (n *ℤ pos (unit * t))
  combined C C1 C2 n d t p p' k i j one first convex h1 h2 =
      let a = *ℤ_mono d (C *ℤ pos k) ((C1 *ℤ pos i) +ℤ (C2 *ℤ pos j)) convex in
      let b = *ℤ_mono i (C1 *ℤ pos d) (n *ℤ pos (unit * p)) h1 in
      let c = *ℤ_mono j (C2 *ℤ pos d) (n *ℤ pos (unit * p')) h2 in
      let e = ap (λ (w : ℕ). n *ℤ pos (unit * w)) first in
      *ℤ_cancel_le k (C *ℤ pos d) (n *ℤ pos (unit * t)) one (omega (arith, ints, products, a, b, c, e))

  -- where it is at most S at both ends and wherever it bends down, it is so in all the box
  pub bounds : Each (HoldsAtBend Holds) (turning_in m) → Holds 1 0 → Holds 1 MAX_SETTLEMENT_PRICE → (t x : ℕ) → x ≤ MAX_SETTLEMENT_PRICE * t → Holds t x
  unfolding of_directions
  bounds bending first last t x low =
      let r = agree_all Holds of_directions t x (turning_in m) bending (start t x low first last) in
      let c = r.0 in
      let convex = exposure_between t x c.p c.q c.p' c.q' c.k c.i c.j c.first c.second m r.1 in
      combined (rounded_exposure m (t ∷ x ∷ [])) (rounded_exposure m (c.p ∷ c.q ∷ [])) (rounded_exposure m (c.p' ∷ c.q' ∷ [])) S.numerator S.denominator t c.p c.p' c.k c.i c.j c.one c.first convex c.holds c.holds'

module _ (m : Summed) where
  S : Fraction
  S = greatest_exposure m

  abbrev IsBelow : Fraction → Type 0
  IsBelow x = AtMost x S

  bends_hold : (options : List (List ℤ)) → Each IsBelow (map (exposure_at m) (map bend_of (filter bends options))) → Each (HoldsAtBend (Holds m S)) options
  bends_hold [] h = tt
  bends_hold (v ∷ options) h = by (bends v) refl h (λ rest. bends_hold options rest)
    where
      rest : List (List ℤ)
      rest = filter bends options

      by : (b : Bool) → bends v ≡ b → Each IsBelow (map (exposure_at m) (map bend_of (cond b (v ∷ rest) rest)))
          → (Each IsBelow (map (exposure_at m) (map bend_of rest)) → Each (HoldsAtBend (Holds m S)) options) → Each (HoldsAtBend (Holds m S)) (v ∷ options)
      by true e h later = (λ signs inside. h.0, later h.1)
      by false e h later = (λ signs inside. let yes = bends_so v signs inside in cc, later h)

  defined : (zs : List (List ℕ)) → Each (λ z. 1 ≤ scale_of z) zs → Each IsDefined (map (exposure_at m) zs)
  defined [] h = tt
  defined (z ∷ zs) h = (omega (arith, h.0), defined zs h.1)

  scales : (options : List (List ℤ)) → Each (λ z. 1 ≤ scale_of z) (map bend_of (filter bends options))
  scales [] = tt
  scales (v ∷ options) = by (bends v) refl (scales options)
    where
      rest : List (List ℤ)
      rest = filter bends options

      by : (b : Bool) → bends v ≡ b → Each (λ z. 1 ≤ scale_of z) (map bend_of rest) → Each (λ z. 1 ≤ scale_of z) (map bend_of (cond b (v ∷ rest) rest))
      by true e h = (bends_scale v e, h)
      by false e h = h

  in_box : (t x : ℕ) → x ≤ MAX_SETTLEMENT_PRICE * t → Holds m S t x
  unfolding S
  in_box t x low =
      let below = none_above (exposure_at m lowest_state) (map (exposure_at m) (highest_state ∷ bends_in m)) (omega arith) (defined (highest_state ∷ bends_in m) (omega arith, scales (options_in m))) in
      let bending = bends_hold (options_in m) below.1.1 in
      bounds m (greatest_exposure m) (each_turning (HoldsAtBend (Holds m S)) m bending) below.0 below.1.0 t x low

pub greatest_bounds : GreatestBounds
unfolding S
greatest_bounds m t [] box = absurd (omega (arith, box.on))
greatest_bounds m t (x ∷ []) box = in_box m t x (All-head (λ (y : ℕ). y ≤ MAX_SETTLEMENT_PRICE * t) x [] box.within)
greatest_bounds m t (x ∷ y ∷ s) box = absurd (omega (arith, box.on))
