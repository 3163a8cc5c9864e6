-- The price that a walk finds is the one from which on the order raises the greatest surplus.
use Rattle.std.proofs.Common.{◌≡◌, ℕ, suc, zero, ◌≤◌, ◌==◌, true, false, if◌then◌else◌, arith, Option, Some, None, refl, sym, subst, ◌∙◌, inl, inr}
use Rattle.std.proofs.lemmas.Bool.{cases_Bool}
use Rattle.std.proofs.lemmas.Bool.Decides.{nat_tests}
use Rattle.form.specs.Limits.{IsWithinLimits}
use Rattle.form.specs.declared.forms.Form.{Form}
use Rattle.form.specs.declared.orders.Side.{Side}
use Rattle.form.specs.declared.orders.Side.TheVariants.{Buy, Sell}
use Rattle.form.specs.declared.orders.Order.{Order}
use Rattle.form.specs.declared.orders.Batch.{Batch}
use Rattle.form.specs.declared.limits.TheConstants.{MAX_PRICE}
use Rattle.frac.specs.Value.{fraction_of}
use Rattle.clearing_model.specs.Clearing.{IsGreatest}
use Rattle.cert_check.specs.declared.outcome.Outcome.{Outcome}
use Rattle.clearing.specs.Outcome.{outcome_of}
use Rattle.option_quotes.specs.declared.ends.Ends.{Ends}
use Rattle.option_quotes.specs.declared.ends.Probed.{Probed}
use Rattle.option_quotes.specs.declared.prices.MarketPrices.{MarketPrices}
use Rattle.option_quotes.specs.declared.prices.SidePrice.{SidePrice}
use Rattle.option_quotes.specs.declared.prices.SidePrice.TheVariants.{At, Never, Unmarked, Spent}
use Rattle.option_quotes.specs.declared.quotes.Quoted.TheVariants as quoted
use Rattle.option_quotes.specs.Ends.{AreEnds, IsBetter, IsProbed}
use Rattle.option_quotes.specs.Implied.{above_of, asked, landed_at, next_along, next_better, prices_for, prices_of, side_price, walked_all, walked_from, most_walked}
use Rattle.option_quotes.specs.Probes.{best_price, gap, is_optimal, is_raised, probe_outcome, with_order, worst_price}
use Rattle.option_quotes.specs.Quotes.{IsQuote, IsShown}
use Rattle.option_quotes.specs.Laws.{ImpliedPricesAreThresholds}
use Rattle.option_quotes.specs.Shown.{EndsAsProbed, IfMarked, IsImplied}
use Rattle.option_quotes.specs.Thresholds.{MayBeQuoted, TellPrices, TellsSide}
use Rattle.option_quotes.proofs.Answered.{best_fits}
use Rattle.option_quotes.proofs.Beside.{raised_beside}
use Rattle.option_quotes.proofs.ProbesAlong.{side_ends}
use Rattle.option_quotes.proofs.Raising.{asked_within, proved, quantity_within, quote_between, quote_never, quote_worst, shown}
use Rattle.option_quotes.proofs.Walks.{along_fits, along_is_worse, better_fits, better_is_better, better_is_near, then_of, else_of}

of_quote : (batch : Batch) (order : Order) (limit : ℕ) (base : Outcome) (price : ℕ) (raising : Outcome) (beside : Option Outcome) → IsQuote batch order limit (quoted.At price raising beside base)
    → IsImplied batch order limit base (At price raising beside)
of_quote batch order limit base price raising beside quote = (quote.raises, quote.shown)

abbrev at_probe : Batch → Order → ℕ → ℕ → Probed
at_probe batch order limit price = record { price = price; outcome = probe_outcome batch order limit price }

-- the order raises at the price, and the outcome there is marked
record RaisesAt (batch : Batch) (order : Order) (limit : ℕ) (base : Outcome) (price : ℕ) : Type 0 where
  fits : price ≤ MAX_PRICE
  optimal : is_optimal (probe_outcome batch order limit price) ≡ true
  raised : is_raised base (probe_outcome batch order limit price) ≡ true

module _ (batch : Batch) (order : Order) (limit : ℕ) (base : Outcome) (within : IsWithinLimits (with_order batch order)) (first : IsShown batch limit base) where
  probed : (price : ℕ) → RaisesAt batch order limit base price → IsProbed batch order limit (at_probe batch order limit price)
  probed price raises = record { within = raises.fits; is = refl; optimal = raises.optimal }

  at_worst : (price : ℕ) → RaisesAt batch order limit base price → price ≡ worst_price order.side → IsImplied batch order limit base (At price (probe_outcome batch order limit price) None)
  at_worst price raises worst = of_quote batch order limit base price _ None (quote_worst batch order limit base (at_probe batch order limit price) within first worst (probed price raises) raises.raised)

  between : (ends : Ends) → AreEnds batch order limit base ends → gap ends.raising.price ends.other.price ≤ 1 → IsImplied batch order limit base (At ends.raising.price ends.raising.outcome (Some ends.other.outcome))
  between ends are near = of_quote batch order limit base ends.raising.price ends.raising.outcome (Some ends.other.outcome) (quote_between batch order limit base ends within first are near)

  module _ (price : ℕ) (raises : RaisesAt batch order limit base price) (other : ℕ) (along : other ≡ next_along base order.side price (probe_outcome batch order limit price)) (off : price ≡ worst_price order.side → ⊥)
      (optimal : is_optimal (probe_outcome batch order limit other) ≡ true) (not_raised : is_raised base (probe_outcome batch order limit other) ≡ false) where
    are : AreEnds batch order limit base (record { raising = at_probe batch order limit price; other = at_probe batch order limit other })
    are = record {
      raising = probed price raises;
      other = record { within = subst (λ (p : ℕ). p ≤ MAX_PRICE) (sym along) (along_fits order.side price _ raises.fits); is = refl; optimal = optimal };
      raised = raises.raised;
      not_raised = not_raised;
      better = subst (λ (p : ℕ). IsBetter order.side p price) (sym along) (along_is_worse order.side price _ raises.fits off);
    }

    above_fits : next_better order.side other ≤ MAX_PRICE
    above_fits = better_fits order.side price other raises.fits are.other.within are.better

    above : (left : ℕ) → (next_better order.side other ≡ price → ⊥) → IsImplied batch order limit base (above_of (probe_outcome batch order limit) left (next_better order.side other) other)
    above zero apart = tt
    above (suc left) apart =
        let q = next_better order.side other in
        elim (cases_Bool (is_optimal (probe_outcome batch order limit q))) [
          | inl marked ↦
              let here : IsProbed batch order limit (at_probe batch order limit q) = record { within = above_fits; is = refl; optimal = marked } in
              let now : AreEnds batch order limit base (record { raising = at_probe batch order limit q; other = at_probe batch order limit other }) = record {
                raising = here;
                other = are.other;
                raised = raised_beside batch order limit base (record { raising = at_probe batch order limit price; other = at_probe batch order limit other }) (at_probe batch order limit q) within are along refl apart here;
                not_raised = not_raised;
                better = better_is_better order.side price other are.better;
              } in
              subst (IsImplied batch order limit base) (sym (then_of (is_optimal (probe_outcome batch order limit q)) _ _ marked)) (between _ now (better_is_near order.side price other are.better))
          | inr not ↦ subst (IsImplied batch order limit base) (sym (else_of (is_optimal (probe_outcome batch order limit q)) _ _ not)) (record { within = above_fits; is = refl; unmarked = not })
        ]

    landed_is : (left : ℕ) → IsImplied batch order limit base (landed_at (probe_outcome batch order limit) order.side left price other)
    landed_is left =
        let q = next_better order.side other in
        elim (cases_Bool (q == price)) [
          | inl same ↦
              let is : q ≡ price = grind (arith, nat_tests, same) in
              subst (IsImplied batch order limit base) (sym (then_of (q == price) _ _ same))
              (between _ are (subst (λ (p : ℕ). gap p other ≤ 1) is (better_is_near order.side price other are.better)))
          | inr apart ↦
              subst (IsImplied batch order limit base) (sym (else_of (q == price) _ _ apart)) (above left (λ (is : q ≡ price). absurd (grind (arith, nat_tests, apart, is))))
        ]

  off_worst : (price : ℕ) → (price == worst_price order.side) ≡ false → price ≡ worst_price order.side → ⊥
  off_worst price apart is = absurd (grind (arith, nat_tests, apart, is))

  walk_is : (left price : ℕ) → RaisesAt batch order limit base price → IsImplied batch order limit base (walked_from (probe_outcome batch order limit) base order.side left price)
  unfolding walked_from
  walk_is zero price raises = elim (cases_Bool (price == worst_price order.side)) [
    | inl at ↦
        let worst : price ≡ worst_price order.side = grind (arith, nat_tests, at) in
        subst (IsImplied batch order limit base) (sym (then_of (price == worst_price order.side) _ _ at)) (at_worst price raises worst)
    | inr off ↦ subst (IsImplied batch order limit base) (sym (else_of (price == worst_price order.side) _ _ off)) tt
  ]
  walk_is (suc left) price raises =
      let f : ℕ → Outcome = probe_outcome batch order limit in
      let other = next_along base order.side price (f price) in
      elim (cases_Bool (price == worst_price order.side)) [
        | inl at ↦
            let worst : price ≡ worst_price order.side = grind (arith, nat_tests, at) in
            subst (IsImplied batch order limit base) (sym (then_of (price == worst_price order.side) _ _ at)) (at_worst price raises worst)
        | inr off ↦
            subst (IsImplied batch order limit base) (sym (else_of (price == worst_price order.side) _ _ off)) (elim (cases_Bool (is_optimal (f other))) [
              | inl optimal ↦
                  subst (IsImplied batch order limit base) (sym (then_of (is_optimal (f other)) _ _ optimal)) (elim (cases_Bool (is_raised base (f other))) [
                    | inl raised ↦
                        subst (IsImplied batch order limit base) (sym (then_of (is_raised base (f other)) _ _ raised))
                        (walk_is left other (record { fits = along_fits order.side price _ raises.fits; optimal = optimal; raised = raised }))
                    | inr not ↦
                        subst (IsImplied batch order limit base) (sym (else_of (is_raised base (f other)) _ _ not))
                        (landed_is price raises other refl (off_worst price off) optimal not left)
                  ])
              | inr unmarked ↦
                  subst (IsImplied batch order limit base) (sym (else_of (is_optimal (f other)) _ _ unmarked))
                  (record { within = along_fits order.side price _ raises.fits; is = refl; unmarked = unmarked })
            ])
      ]

  from_best : (price : ℕ) → price ≡ best_price order.side
      → IsImplied batch order limit base (if is_optimal (probe_outcome batch order limit price)
      then if is_raised base (probe_outcome batch order limit price) then walked_all (probe_outcome batch order limit) base order.side price else Never (probe_outcome batch order limit price)
      else Unmarked price (probe_outcome batch order limit price))
  unfolding walked_all most_walked
  from_best price at =
      let f : ℕ → Outcome = probe_outcome batch order limit in
      let fits : price ≤ MAX_PRICE = subst (λ (p : ℕ). p ≤ MAX_PRICE) (sym at) (best_fits order.side) in
      elim (cases_Bool (is_optimal (f price))) [
        | inl optimal ↦
            subst (IsImplied batch order limit base) (sym (then_of (is_optimal (f price)) _ _ optimal)) (elim (cases_Bool (is_raised base (f price))) [
              | inl raised ↦
                  subst (IsImplied batch order limit base) (sym (then_of (is_raised base (f price)) _ _ raised))
                  (walk_is 59 price (record { fits = fits; optimal = optimal; raised = raised }))
              | inr not ↦
                  subst (IsImplied batch order limit base) (sym (else_of (is_raised base (f price)) _ _ not))
                  (quote_never batch order limit base (at_probe batch order limit price) within first at (record { within = fits; is = refl; optimal = optimal }) not).never
            ])
        | inr unmarked ↦ subst (IsImplied batch order limit base) (sym (else_of (is_optimal (f price)) _ _ unmarked)) (record { within = fits; is = refl; unmarked = unmarked })
      ]

-- the price of a side is implied
pub side_is_implied : (batch : Batch) (order : Order) (limit : ℕ) → IsWithinLimits (with_order batch order) → IsShown batch limit (outcome_of batch limit)
    → IsImplied batch order limit (outcome_of batch limit) (side_price batch order limit)
unfolding side_price
side_is_implied batch order limit within first = from_best batch order limit (outcome_of batch limit) within first (best_price order.side) refl

-- the prices of so many bundles, where they are those of the two orders for them
pub asked_prices : (batch : Batch) (form : Form) (quantity limit : ℕ) (buy sell : Order) (prices : MarketPrices) → buy ≡ asked form Buy quantity → sell ≡ asked form Sell quantity
    → prices ≡ prices_for batch buy sell limit → prices ≡ prices_of batch form quantity limit
unfolding prices_of
asked_prices batch form quantity limit buy sell prices buys sells is = is ∙ (λ i. prices_for batch (buys i) (sells i) limit)

module _ (batch : Batch) (form : Form) (quantity limit : ℕ) (may : MayBeQuoted batch form) (some : 1 ≤ quantity) (few : quantity ≤ 1000000) where
  asked_is_implied : (side : Side) → is_optimal (outcome_of batch limit) ≡ true
      → IsImplied batch (asked form side quantity) limit (outcome_of batch limit) (side_price batch (asked form side quantity) limit)
  asked_is_implied side optimal =
      let order = asked form side quantity in
      side_is_implied batch order limit
      (quantity_within batch form side quantity order refl some few (asked_within batch form side may))
      (shown batch limit (outcome_of batch limit) may.within refl optimal)

  -- the prices of both sides are implied
  pub prices_are_implied : (prices : MarketPrices) → prices ≡ prices_of batch form quantity limit
      → IfMarked prices (λ base ask bid. IsImplied batch (asked form Buy quantity) limit base ask) × IfMarked prices (λ base ask bid. IsImplied batch (asked form Sell quantity) limit base bid)
  unfolding prices_of
  prices_are_implied prices is =
      let base = outcome_of batch limit in
      let AreImplied : MarketPrices → Type 0 =
      λ prices. IfMarked prices (λ base ask bid. IsImplied batch (asked form Buy quantity) limit base ask) × IfMarked prices (λ base ask bid. IsImplied batch (asked form Sell quantity) limit base bid) in
      subst AreImplied (sym is) (elim (cases_Bool (is_optimal base)) [
        | inl optimal ↦ subst AreImplied (sym (then_of (is_optimal base) _ _ optimal)) (asked_is_implied Buy optimal, asked_is_implied Sell optimal)
        | inr not ↦ subst AreImplied (sym (else_of (is_optimal base) _ _ not)) (tt, tt)
      ])

-- the probes of both sides end as they say
pub prices_are_probed : (batch : Batch) (form : Form) (quantity limit : ℕ) (prices : MarketPrices) → prices ≡ prices_of batch form quantity limit
    → IfMarked prices (λ base ask bid. EndsAsProbed batch (asked form Buy quantity) limit ask × EndsAsProbed batch (asked form Sell quantity) limit bid)
unfolding prices_of
prices_are_probed batch form quantity limit prices is =
    let base = outcome_of batch limit in
    let AreProbed : MarketPrices → Type 0 =
    λ prices. IfMarked prices (λ base ask bid. EndsAsProbed batch (asked form Buy quantity) limit ask × EndsAsProbed batch (asked form Sell quantity) limit bid) in
    subst AreProbed (sym is) (elim (cases_Bool (is_optimal base)) [
      | inl optimal ↦
          subst AreProbed (sym (then_of (is_optimal base) _ _ optimal)) (side_ends batch (asked form Buy quantity) limit, side_ends batch (asked form Sell quantity) limit)
      | inr not ↦ subst AreProbed (sym (else_of (is_optimal base) _ _ not)) tt
    ])

-- ---- what is told
tells : (batch : Batch) (order : Order) (limit : ℕ) (base : Outcome) (found : SidePrice) → IsGreatest batch.underlyings batch.orders (fraction_of base.claim.surplus)
    → IsImplied batch order limit base found → EndsAsProbed batch order limit found → side_price batch order limit ≡ found → TellsSide batch order limit found
tells batch order limit base (At price raising beside) greatest is probed found = ((is.1.price_within, fraction_of base.claim.surplus, greatest, is.0), probed.ends)
tells batch order limit base (Never extreme) greatest is probed found = ((fraction_of base.claim.surplus, greatest, is.none), probed.ends)
tells batch order limit base (Unmarked price outcome) greatest is probed found = probed.ends
tells batch order limit base Spent greatest is probed found = record { marked = probed.ends.0; all = probed.ends.1; wanted = found }

pub implied_prices_are_thresholds : ImpliedPricesAreThresholds
unfolding prices_of
implied_prices_are_thresholds batch form quantity limit may some few =
    let base = outcome_of batch limit in
    let side_tells : (side : Side) → is_optimal base ≡ true → TellsSide batch (asked form side quantity) limit (side_price batch (asked form side quantity) limit) =
    λ side optimal.
    let order = asked form side quantity in
    tells batch order limit base (side_price batch order limit) (proved batch limit base may.within refl optimal).greatest
    (asked_is_implied batch form quantity limit may some few side optimal) (side_ends batch order limit) refl in
    elim (cases_Bool (is_optimal base)) [
      | inl optimal ↦ subst (TellPrices batch form quantity limit) (sym (then_of (is_optimal base) _ _ optimal)) (side_tells Buy optimal, side_tells Sell optimal)
      | inr not ↦ subst (TellPrices batch form quantity limit) (sym (else_of (is_optimal base) _ _ not)) (refl, not)
    ]
