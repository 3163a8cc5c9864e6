-- The greatest exposure is one of a state of the box, and the live orders that may lose there reach
-- it, filled whole; so the need is enough, and no bound below the greatest exposure is.
use Rattle.std.proofs.Common.{◌≡◌, ℕ, ◌*◌, ◌≤◌, Bool, true, false, cond, List, [], ◌∷◌, map, filter, zip, All, arith, ℤ, pos, ◌+ℤ◌, ◌*ℤ◌, ◌≤ℤ◌, refl, ap, sym, subst}
use Rattle.std.specs.Prelude.{int_lt, nat_abs, if◌then◌else◌}
use Rattle.std.proofs.lemmas.Int.{ints}
use Rattle.std.proofs.lemmas.List.{length-map}
use Rattle.std.proofs.lemmas.List.Elements.{All-cons, All-nil}
use Rattle.arithmetic.specs.Sums.{positive_part, weigh_ℤ}
use Rattle.arithmetic.proofs.Integers.{*ℤ_cancel_le, *ℤ_mono}
use Rattle.arithmetic.proofs.Parts.{part_above, part_below}
use Rattle.arithmetic.proofs.Products.{products}
use Rattle.arithmetic.proofs.Tests.{int_lt-no, int_lt-yes}
use Rattle.exact_num.specs.Fraction.{Fraction, IsDefined}
use Rattle.exact_num.specs.Tests.{is_at_most}
use Rattle.form.specs.declared.orders.Order.{Order}
use Rattle.form.specs.Payoff.{scale_of}
use Rattle.form.specs.Vector.{strike_entry}
use Rattle.clearing_model.specs.Clearing.{Filled}
use Rattle.clearing_model.specs.Line.{weight_entry}
use Rattle.portfolio_margin.specs.Owed.{owed_over}
use Rattle.portfolio_margin.proofs.Rounded.{liabilities_are_rounded_up}
use Rattle.limits.specs.declared.TheConstants.{MAX_SETTLEMENT_PRICE}
use Rattle.account_need.specs.Exposure.{Covers, Portfolio, IsInBox, cost_at, losses_at}
use Rattle.account_need.specs.Rounded.{Summed, owed_of, rounded_exposure, summed, unit}
use Rattle.account_need.specs.Line.{bend_of, bends, bends_in, exposure_at, greatest, greatest_exposure, highest_state, line_bound, lowest_state, options_in}
use Rattle.account_need.specs.Laws.{EnoughIsAboveTrue, GreatestIsReached, LineNeedIsEnough, amount_of, cost_of}
use Rattle.market_laws.proofs.Line.{Each}
use Rattle.account_need.proofs.Convex.{bends_parts, bends_scale, greatest_bounds}
use Rattle.account_need.proofs.Rounding.{rounded_owes_more}

-- ---- one of the states
record IsAt (f : List ℕ → Fraction) (Q : List ℕ → Type 0) (g : Fraction) : Type 0 where
  z : List ℕ
  has : Q z
  is : f z ≡ g

one_of : (f : List ℕ → Fraction) (Q : List ℕ → Type 0) (z : List ℕ) (zs : List (List ℕ)) → Q z → Each Q zs → IsAt f Q (greatest (f z) (map f zs))
one_of f Q z [] here all = record { z = z; has = here; is = refl }
one_of f Q z (w ∷ zs) here all = by (is_at_most (f z) (greatest (f w) (map f zs))) (one_of f Q w zs all.0 all.1)
  where
    g : Fraction
    g = greatest (f w) (map f zs)

    by : (b : Bool) → IsAt f Q (greatest (f w) (map f zs)) → IsAt f Q (if b then greatest (f w) (map f zs) else f z)
    by true other = other
    by false other = record { z = z; has = here; is = refl }

-- a settlement of the box
record InBox (z : List ℕ) : Type 0 where
  t : ℕ
  s : List ℕ
  in_box : IsInBox 1 t s
  is : z ≡ t ∷ s

in_box : (t x : ℕ) → 1 ≤ t → x ≤ MAX_SETTLEMENT_PRICE * t → InBox (t ∷ x ∷ [])
in_box t x some low = record {
  t = t;
  s = x ∷ [];
  in_box = record { settlement = some; on = refl; within = All-cons (λ y. y ≤ MAX_SETTLEMENT_PRICE * t) x [] low (All-nil (λ y. y ≤ MAX_SETTLEMENT_PRICE * t)) };
  is = refl;
}

bends_in_box : (options : List (List ℤ)) → Each InBox (map bend_of (filter bends options))
bends_in_box [] = tt
bends_in_box (v ∷ options) = by (bends v) refl (bends_in_box options)
  where
    rest : List (List ℤ)
    rest = filter bends options

    by : (b : Bool) → bends v ≡ b → Each InBox (map bend_of (filter bends options)) → Each InBox (map bend_of (cond b (v ∷ filter bends options) (filter bends options)))
    by true e h = (in_box (nat_abs (weight_entry v)) (nat_abs (strike_entry v)) (bends_scale v e) (bends_parts v e).1, h)
    by false e h = h

at_state : (p : Summed) → IsAt (exposure_at p) InBox (greatest_exposure p)
at_state p =
    one_of (exposure_at p) InBox lowest_state (highest_state ∷ bends_in p) (in_box 1 0 (omega arith) (omega arith)) (in_box 1 MAX_SETTLEMENT_PRICE (omega arith) (omega arith), bends_in_box (options_in p))

-- ---- the fills
whole_if : Bool → Order → ℕ
whole_if b o = cond b o.quantity 0

fill_at : List ℕ → Order → ℕ
fill_at z o = whole_if (int_lt (pos 0) (cost_at z o)) o

fill_costs : (z : List ℕ) (o : Order) → cost_at z o *ℤ pos (fill_at z o) ≡ pos (o.quantity * positive_part (cost_at z o))
unfolding fill_at whole_if
fill_costs z o = by (int_lt (pos 0) (cost_at z o)) refl
  where
    c : ℤ
    c = cost_at z o

    by : (b : Bool) → int_lt (pos 0) (cost_at z o) ≡ b → cost_at z o *ℤ pos (cond b o.quantity 0) ≡ pos (o.quantity * positive_part (cost_at z o))
    by true e =
        let above = part_above (cost_at z o) (omega (arith, ints, int_lt-yes (pos 0) (cost_at z o) e)) in
        omega (arith, ints, products, ap (λ (x : ℤ). x *ℤ pos o.quantity) above)
    by false e =
        let none = part_below (cost_at z o) (int_lt-no (pos 0) (cost_at z o) e) in
        omega (arith, ints, ap (λ (n : ℕ). o.quantity * n) none)

fills_cost : (z : List ℕ) (live : List Order) → weigh_ℤ amount_of (cost_of z) (zip live (map (fill_at z) live)) ≡ pos (losses_at z live)
fills_cost z [] = refl
fills_cost z (o ∷ live) = omega (arith, ints, fill_costs z o, fills_cost z live)

fill_few : (z : List ℕ) (o : Order) → fill_at z o ≤ o.quantity * 1
unfolding fill_at whole_if
fill_few z o = by (int_lt (pos 0) (cost_at z o))
  where
    by : (b : Bool) → cond b o.quantity 0 ≤ o.quantity * 1
    by true = omega arith
    by false = omega arith

fills_few : (z : List ℕ) (live : List Order) → All (λ (fill : Filled). fill.1 ≤ fill.0.quantity * 1) (zip live (map (fill_at z) live))
fills_few z [] = All-nil (λ (fill : Filled). fill.1 ≤ fill.0.quantity * 1)
fills_few z (o ∷ live) = All-cons (λ (fill : Filled). fill.1 ≤ fill.0.quantity * 1) (o, fill_at z o) (zip live (map (fill_at z) live)) (fill_few z o) (fills_few z live)

pub greatest_is_reached : GreatestIsReached
greatest_is_reached p =
    let found = at_state p in
    let z = found.has.t ∷ found.has.s in
    let fills = map (fill_at z) p.live in
    let costs = fills_cost z p.live in
    let is : exposure_at p z ≡ greatest_exposure p = subst (λ (w : List ℕ). exposure_at p w ≡ greatest_exposure p) found.has.is found.is in
    let reached : (owed_of z p.sums +ℤ pos unit *ℤ weigh_ℤ amount_of (cost_of z) (zip p.live fills)) *ℤ pos (exposure_at p z).denominator ≡ (exposure_at p z).numerator *ℤ pos (unit * found.has.t) =
    omega (arith, ints, products, ap (λ (x : ℤ). (owed_of z p.sums +ℤ pos unit *ℤ x) *ℤ pos (unit * found.has.t)) costs) in
    record {
      t = found.has.t;
      s = found.has.s;
      in_box = found.has.in_box;
      fills = fills;
      are_fills = (omega arith, length-map p.live (fill_at z), fills_few z p.live);
      reached = subst (λ (S : Fraction). (owed_of z p.sums +ℤ pos unit *ℤ weigh_ℤ amount_of (cost_of z) (zip p.live fills)) *ℤ pos S.denominator ≡ S.numerator *ℤ pos (unit * found.has.t)) is reached;
    }

-- ---- the need
defined_in_box : (z : List ℕ) → InBox z → 1 ≤ scale_of z
defined_in_box z is = subst (λ (w : List ℕ). 1 ≤ scale_of w) (sym is.is) is.in_box.settlement

greatest_defined : (p : Summed) → IsDefined (greatest_exposure p)
greatest_defined p =
    let found = at_state p in
    subst IsDefined found.is (omega (arith, defined_in_box found.z found.has))

-- a bound by rounded fills, rounded up, is one by the fills themselves
rounded_up : (C n c : ℤ) (d t : ℕ) → 1 ≤ d → (C *ℤ pos d) ≤ℤ (n *ℤ pos (unit * t)) → (n *ℤ pos 1) ≤ℤ (c *ℤ pos d) → C ≤ℤ (c *ℤ pos (unit * t))
rounded_up C n c d t some le up =
    let times = *ℤ_mono (unit * t) (n *ℤ pos 1) (c *ℤ pos d) up in
    *ℤ_cancel_le d C (c *ℤ pos (unit * t)) some (omega (arith, ints, products, le, times))

pub as_filled : (o r c : ℤ) (D t L : ℕ) → (o *ℤ pos unit) ≤ℤ (r *ℤ pos D) → (r +ℤ pos (unit * L)) ≤ℤ (c *ℤ pos (unit * t)) → (o +ℤ pos (D * L)) ≤ℤ (c *ℤ pos (D * t))
as_filled o r c D t L owes most =
    let times = *ℤ_mono D (r +ℤ pos (unit * L)) (c *ℤ pos (unit * t)) most in
    *ℤ_cancel_le unit (o +ℤ pos (D * L)) (c *ℤ pos (D * t)) (omega arith) (omega (arith, ints, products, owes, times))

pub line_covers : (p : Portfolio) → p.underlyings ≡ 1 → Covers p (line_bound (summed p))
line_covers p one t s box D den =
    let m = summed p in
    let S = greatest_exposure m in
    let up = (liabilities_are_rounded_up S (greatest_defined m)).not_below in
    let on_one : IsInBox 1 t s = subst (λ (n : ℕ). IsInBox n t s) one box in
    let most = rounded_up (rounded_exposure m (t ∷ s)) S.numerator (line_bound m) S.denominator t (greatest_defined m) (greatest_bounds m t s on_one) up in
    as_filled (owed_over D p.positions (t ∷ s)) (owed_of (t ∷ s) m.sums) (line_bound m) D t (losses_at (t ∷ s) p.live) (rounded_owes_more p.positions (t ∷ s) D den) most

pub line_need_is_enough : LineNeedIsEnough
line_need_is_enough p one = record { bound = line_bound (summed p); covers = line_covers p one; asked = omega (arith, ints) }

pub enough_is_above_true : EnoughIsAboveTrue
enough_is_above_true p need amount true_need enough = omega (arith, ints, true_need.least (pos amount) enough)
