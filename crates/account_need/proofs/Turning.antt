-- The bound on one underlying is the greatest at the ends of the box and where the exposure may bend
-- down: it is greatest at none of the other bends.
use Rattle.std.proofs.Common.{◌≡◌, ℕ, ◌*◌, ◌≤◌, Bool, true, false, List, [], ◌∷◌, ◌++◌, nat_abs, arith, ℤ, ◌≤ℤ◌, refl, ◌∙◌}
use Rattle.std.specs.Prelude.{if◌then◌else◌}
use Rattle.std.specs.Int.{int_max}
use Rattle.std.proofs.lemmas.Int.{ints, int_max_is}
use Rattle.arithmetic.proofs.Integers.{*ℤ_mono}
use Rattle.exact_num.specs.Fraction.{over, whole}
use Rattle.form.specs.declared.orders.Order.{Order}
use Rattle.form.specs.Payoff.{bundle_legs}
use Rattle.form.specs.Vector.{strike_entry}
use Rattle.clearing_model.specs.Line.{weight_entry}
use Rattle.limits.specs.declared.TheConstants.{MAX_SETTLEMENT_PRICE}
use Rattle.portfolio_margin.proofs.Rounded.{liabilities_are_rounded_up}
use Rattle.account_need.specs.Rounded.{OptionSum, Summed, options_of, rounded_exposure, unit}
use Rattle.account_need.specs.Line.{bend_of, bends, highest_state, line_bound, lowest_state, options_in}
use Rattle.account_need.specs.Prices.{bound_at, is_due, turning_in, turning_live, turning_sums, with_bend, with_bends}
use Rattle.account_need.specs.Several.{is_by_itself}
use Rattle.account_need.proofs.Convex.{Holds, bends_parts, bends_scale, bends_so, bounds, each_turning}
use Rattle.account_need.proofs.LineBounds.{line_bound_is}
use Rattle.account_need.proofs.Narrow.{HoldsAtBend}
use Rattle.market_laws.proofs.Line.{Each, each_of_all, each_then}

-- ---- bounds rounded up
module _ (p : Summed) where
  -- at a bend the bound is at most W
  abbrev Below : ℤ → List ℤ → Type 0
  Below W v = bends v ≡ true → bound_at p (bend_of v) ≤ℤ W

  below_more : (W W' : ℤ) → W ≤ℤ W' → (v : List ℤ) → Below W v → Below W' v
  below_more W W' le v h = λ e. omega (arith, ints, le, h e)

  one_above : (best : ℤ) (v : List ℤ) → (best ≤ℤ with_bend p best v) × Below (with_bend p best v) v
  one_above best v = by (bends v)
    where
      by : (b : Bool) → (best ≤ℤ (if b then int_max best (bound_at p (bend_of v)) else best)) × (b ≡ true → bound_at p (bend_of v) ≤ℤ (if b then int_max best (bound_at p (bend_of v)) else best))
      by true =
          let is = int_max_is best (bound_at p (bend_of v)) in
          (omega (arith, ints, is), λ e. omega (arith, ints, is))
      by false = (omega (arith, ints), λ e. absurd (cc))

  -- the bound from bend to bend is above all of them
  above : (best : ℤ) (options : List (List ℤ)) → (best ≤ℤ with_bends p best options) × Each (Below (with_bends p best options)) options
  above best [] = (omega (arith, ints), tt)
  above best (v ∷ options) =
      let one = one_above best v in
      let rest = above (with_bend p best v) options in
      (omega (arith, ints, one.0, rest.0), (below_more (with_bend p best v) (with_bends p (with_bend p best v) options) rest.0 v one.1, rest.1))

  one_least : (W best : ℤ) (v : List ℤ) → best ≤ℤ W → Below W v → with_bend p best v ≤ℤ W
  one_least W best v le h = by (bends v) h
    where
      by : (b : Bool) → (b ≡ true → bound_at p (bend_of v) ≤ℤ W) → (if b then int_max best (bound_at p (bend_of v)) else best) ≤ℤ W
      by true h = omega (arith, ints, le, h refl, int_max_is best (bound_at p (bend_of v)))
      by false h = le

  -- and the least that is
  least : (W best : ℤ) (options : List (List ℤ)) → best ≤ℤ W → Each (Below W) options → with_bends p best options ≤ℤ W
  least W best [] le h = le
  least W best (v ∷ options) le h = least W (with_bend p best v) options (one_least W best v le h.0) h.1

  -- rounding up
  then_holds : (W : ℤ) (t s : ℕ) → 1 ≤ t → bound_at p (t ∷ s ∷ []) ≤ℤ W → Holds p (whole W) t s
  then_holds W t s some le =
      let up = (liabilities_are_rounded_up (over (rounded_exposure p (t ∷ s ∷ [])) (unit * t)) (omega (arith, some))).not_below in
      let times = *ℤ_mono (unit * t) (bound_at p (t ∷ s ∷ [])) W le in
      omega (arith, ints, up, times)

  holds_then : (W : ℤ) (t s : ℕ) → 1 ≤ t → Holds p (whole W) t s → bound_at p (t ∷ s ∷ []) ≤ℤ W
  holds_then W t s some h =
      (liabilities_are_rounded_up (over (rounded_exposure p (t ∷ s ∷ [])) (unit * t)) (omega (arith, some))).least W h

  ends : ℤ
  ends = int_max (bound_at p lowest_state) (bound_at p highest_state)

  turned : ℤ
  turned = with_bends p ends (turning_in p)

  -- at every bend the bound is at most that where it may bend down
  all_below : (v : List ℤ) → Below turned v
  unfolding turned ends
  all_below v e =
      let found = above ends (turning_in p) in
      let W = turned in
      let is = int_max_is (bound_at p lowest_state) (bound_at p highest_state) in
      let turn : (w : List ℤ) → Below W w → HoldsAtBend (Holds p (whole W)) w =
      λ w h signs inside. let so = bends_so w signs inside in then_holds W (nat_abs (weight_entry w)) (nat_abs (strike_entry w)) (bends_scale w so) (h so) in
      let bending = each_then (Below W) (HoldsAtBend (Holds p (whole W))) (turning_in p) turn found.1 in
      let first = then_holds W 1 0 (omega arith) (omega (arith, ints, is, found.0)) in
      let last = then_holds W 1 MAX_SETTLEMENT_PRICE (omega arith) (omega (arith, ints, is, found.0)) in
      holds_then W (nat_abs (weight_entry v)) (nat_abs (strike_entry v)) (bends_scale v e)
      (bounds p (whole W) bending first last (nat_abs (weight_entry v)) (nat_abs (strike_entry v)) (bends_parts v e).1)

  both_ways : (a b : ℤ) → a ≤ℤ b → b ≤ℤ a → a ≡ b
  both_ways a b le le' = omega (arith, ints, le, le')

  pub line_bound_turns : line_bound p ≡ with_bends p (int_max (bound_at p lowest_state) (bound_at p highest_state)) (turning_in p)
  unfolding turned ends
  line_bound_turns =
      let all = above ends (options_in p) in
      let W = with_bends p ends (options_in p) in
      let up = least turned ends (options_in p) (above ends (turning_in p)).0 (each_of_all (Below turned) all_below (options_in p)) in
      let down = least W ends (turning_in p) all.0 (each_turning (Below W) p all.1) in
      line_bound_is p ∙ both_ways W turned up down

-- ---- one sum or order more
pub sum_turns : (p : Summed) (best : ℤ) (s : OptionSum) (sums : List OptionSum) → is_due s ≡ true → with_bends p best (turning_sums (s ∷ sums)) ≡ with_bends p (with_bend p best s.option) (turning_sums sums)
sum_turns p best s sums e = rw (e) refl

pub sum_passes : (s : OptionSum) (sums : List OptionSum) → is_due s ≡ false → turning_sums (s ∷ sums) ≡ turning_sums sums
sum_passes s sums e = rw (e) refl

pub order_turns : (o : Order) (live : List Order) → is_by_itself o ≡ true → turning_live (o ∷ live) ≡ options_of (bundle_legs o.bundle) ++ turning_live live
order_turns o live e = rw (e) refl

pub order_passes : (o : Order) (live : List Order) → is_by_itself o ≡ false → turning_live (o ∷ live) ≡ turning_live live
order_passes o live e = rw (e) refl
