-- From a price that raises to the next along its line.
use Rattle.std.proofs.Common.{◌≡◌, ℕ, suc, zero, ◌-◌, ◌<◌, ◌≤◌, ◌==◌, min, Bool, true, false, arith, Some, None, if◌then◌else◌, inl, inr, refl, ap, sym, subst, ◌∙◌}
use Rattle.std.proofs.lemmas.Bool.{cases_lt, eq-eqb, ne_eqb}
use Rattle.exact_num.specs.Fraction.{IsNotBelowZero}
use Rattle.frac.specs.Value.{fraction_of}
use Rattle.form.specs.declared.orders.Side.{Side}
use Rattle.form.specs.declared.orders.Side.TheVariants.{Buy, Sell}
use Rattle.form.specs.declared.orders.Order.{Order}
use Rattle.form.specs.declared.orders.Batch.{Batch}
use Rattle.form.specs.declared.limits.TheConstants.{MAX_PRICE}
use Rattle.cert_check.specs.declared.outcome.Outcome.{Outcome}
use Rattle.cert_check.proofs.Yes.{yes_covers}
use Rattle.clearing.specs.Outcome.{outcome_of}
use Rattle.option_quotes.specs.declared.ends.Ends.{Ends}
use Rattle.option_quotes.specs.declared.ends.Probed.{Probed}
use Rattle.option_quotes.specs.declared.prices.MarketPrices.TheVariants as market
use Rattle.option_quotes.specs.declared.prices.SidePrice.{SidePrice}
use Rattle.option_quotes.specs.declared.prices.SidePrice.TheVariants.{At, Never, Unmarked, Spent}
use Rattle.option_quotes.specs.Ends.{IsProbed, IsBetter}
use Rattle.option_quotes.specs.Implied.{above_of, landed_at, next_along, next_better, price_along, prices_for, side_price, walked_all, walked_from, most_walked}
use Rattle.option_quotes.specs.Probes.{best_price, gap, is_optimal, is_raised, probe_outcome, worst_price}
use Rattle.option_quotes.specs.Quotes.{IsShown}

pub then_of : {A : Type 0} (t : Bool) (a b : A) → t ≡ true → (if t then a else b) ≡ a
then_of t a b h = ap (λ (s : Bool). if s then a else b) h

pub else_of : {A : Type 0} (t : Bool) (a b : A) → t ≡ false → (if t then a else b) ≡ b
else_of t a b h = ap (λ (s : Bool). if s then a else b) h

-- a base that is shown has a surplus that is not below 0
pub shown_not_below : (batch : Batch) (limit : ℕ) (base : Outcome) → IsShown batch limit base → IsNotBelowZero (fraction_of base.claim.surplus)
shown_not_below batch limit base first = (yes_covers batch base first.yes).not_below_zero

-- ---- the prices
pub capped_along : (side : Side) (price ticks most : ℕ) → price ≤ MAX_PRICE → most ≡ MAX_PRICE → price_along side price (min ticks most) ≡ price_along side price ticks
capped_along Buy price ticks most fits is = omega (arith, fits, is)
capped_along Sell price ticks most fits is = omega (arith, fits, is)

pub along_fits : (side : Side) (price ticks : ℕ) → price ≤ MAX_PRICE → price_along side price ticks ≤ MAX_PRICE
along_fits Buy price ticks fits = omega (arith, fits)
along_fits Sell price ticks fits = omega arith

pub along_is_worse : (side : Side) (price ticks : ℕ) → price ≤ MAX_PRICE → (price ≡ worst_price side → ⊥) → IsBetter side (price_along side price ticks) price
along_is_worse Buy price ticks fits off = elim (cases_lt 0 price) [ inl lt ↦ omega (arith, lt) | inr le ↦ absurd (off (omega (arith, le))) ]
along_is_worse Sell price ticks fits off = elim (cases_lt price MAX_PRICE) [ inl lt ↦ omega (arith, lt) | inr le ↦ absurd (off (omega (arith, le, fits))) ]

pub better_fits : (side : Side) (raising other : ℕ) → raising ≤ MAX_PRICE → other ≤ MAX_PRICE → IsBetter side other raising → next_better side other ≤ MAX_PRICE
better_fits Buy raising other fits within better = omega (arith, fits, better)
better_fits Sell raising other fits within better = omega (arith, within)

pub better_is_better : (side : Side) (raising other : ℕ) → IsBetter side other raising → IsBetter side other (next_better side other)
better_is_better Buy raising other better = omega arith
better_is_better Sell raising other better = omega (arith, better)

pub better_is_near : (side : Side) (raising other : ℕ) → IsBetter side other raising → gap (next_better side other) other ≤ 1
better_is_near Buy raising other better = omega arith
better_is_near Sell raising other better = omega (arith, better)

-- ---- the definition, step by step
walk_ends : (f : ℕ → Outcome) (base : Outcome) (side : Side) (left price : ℕ) → (price == worst_price side) ≡ true → walked_from f base side left price ≡ At price (f price) None
unfolding walked_from
walk_ends f base side zero price at = then_of (price == worst_price side) _ _ at
walk_ends f base side (suc left) price at = then_of (price == worst_price side) _ _ at

walk_spent : (f : ℕ → Outcome) (base : Outcome) (side : Side) (price : ℕ) → (price == worst_price side) ≡ false → walked_from f base side 0 price ≡ Spent
unfolding walked_from
walk_spent f base side price off = else_of (price == worst_price side) _ _ off

-- what follows at the next price
abbrev pub next_of : (ℕ → Outcome) → Outcome → Side → ℕ → ℕ → ℕ → SidePrice
next_of f base side left price other =
    if is_optimal (f other)
    then if is_raised base (f other) then walked_from f base side left other else landed_at f side left price other
    else Unmarked other (f other)

walk_next : (f : ℕ → Outcome) (base : Outcome) (side : Side) (left price : ℕ) → (price == worst_price side) ≡ false
    → walked_from f base side (suc left) price ≡ next_of f base side left price (next_along base side price (f price))
unfolding walked_from
walk_next f base side left price off = else_of (price == worst_price side) _ _ off

-- where a walk has come to
pub record Walks (batch : Batch) (order : Order) (limit : ℕ) (base : Outcome) (first left : ℕ) (raising : Probed) : Type 0 where
  pub is : IsProbed batch order limit raising
  pub raised : is_raised base raising.outcome ≡ true
  pub rest : walked_from (probe_outcome batch order limit) base order.side left raising.price ≡ walked_all (probe_outcome batch order limit) base order.side first

pub walks_first : (batch : Batch) (order : Order) (limit : ℕ) (base : Outcome) (raising : Probed) → IsProbed batch order limit raising → is_raised base raising.outcome ≡ true
    → Walks batch order limit base raising.price 59 raising
unfolding walked_all most_walked
walks_first batch order limit base raising is raised = record { is = is; raised = raised; rest = refl }

module _ (batch : Batch) (order : Order) (limit : ℕ) (base : Outcome) (first left : ℕ) (raising : Probed) (walks : Walks batch order limit base first left raising) where
  pub walks_end : raising.price ≡ worst_price order.side → At raising.price raising.outcome None ≡ walked_all (probe_outcome batch order limit) base order.side first
  walks_end at = sym (sym walks.rest ∙ walk_ends (probe_outcome batch order limit) base order.side left raising.price (eq-eqb raising.price (worst_price order.side) at) ∙ ap (λ (o : Outcome). At raising.price o None) (sym walks.is.is))

  pub walks_spent : left ≡ 0 → (raising.price ≡ worst_price order.side → ⊥) → Spent ≡ walked_all (probe_outcome batch order limit) base order.side first
  walks_spent none off = sym (sym walks.rest ∙ ap (λ (n : ℕ). walked_from (probe_outcome batch order limit) base order.side n raising.price) none ∙ walk_spent (probe_outcome batch order limit) base order.side raising.price (ne_eqb raising.price (worst_price order.side) off))

  module _ (some : 0 < left) (off : raising.price ≡ worst_price order.side → ⊥) (other : Probed) (at : other.price ≡ next_along base order.side raising.price raising.outcome) (is : other.outcome ≡ probe_outcome batch order limit other.price) where
    all : walked_all (probe_outcome batch order limit) base order.side first ≡ next_of (probe_outcome batch order limit) base order.side (left - 1) raising.price other.price
    all =
        let e : left ≡ suc (left - 1) = omega (arith, some) in
        sym walks.rest ∙ ap (λ (n : ℕ). walked_from (probe_outcome batch order limit) base order.side n raising.price) e ∙ walk_next (probe_outcome batch order limit) base order.side (left - 1) raising.price (ne_eqb raising.price (worst_price order.side) off)
        ∙ ap (next_of (probe_outcome batch order limit) base order.side (left - 1) raising.price) (ap (next_along base order.side raising.price) (sym walks.is.is) ∙ sym at)

    pub walks_unmarked : is_optimal other.outcome ≡ false → Unmarked other.price other.outcome ≡ walked_all (probe_outcome batch order limit) base order.side first
    walks_unmarked not_optimal =
        sym (all ∙ else_of (is_optimal ((probe_outcome batch order limit) other.price)) _ _ (ap is_optimal (sym is) ∙ not_optimal) ∙ ap (λ (o : Outcome). Unmarked other.price o) (sym is))

    pub other_probed : is_optimal other.outcome ≡ true → IsProbed batch order limit other
    other_probed optimal = record {
      within = subst (λ (p : ℕ). p ≤ MAX_PRICE) (sym at) (along_fits order.side raising.price _ walks.is.within);
      is = is;
      optimal = optimal;
    }

    pub other_is_worse : IsBetter order.side other.price raising.price
    other_is_worse = subst (λ (p : ℕ). IsBetter order.side p raising.price) (sym at) (along_is_worse order.side raising.price _ walks.is.within off)

    pub walks_on : is_optimal other.outcome ≡ true → is_raised base other.outcome ≡ true → Walks batch order limit base first (left - 1) other
    walks_on optimal raised = record {
      is = other_probed optimal;
      raised = raised;
      rest = sym (all ∙ then_of (is_optimal ((probe_outcome batch order limit) other.price)) _ _ (ap is_optimal (sym is) ∙ optimal) ∙ then_of (is_raised base ((probe_outcome batch order limit) other.price)) _ _ (ap (is_raised base) (sym is) ∙ raised));
    }

    pub walks_land : is_optimal other.outcome ≡ true → is_raised base other.outcome ≡ false
        → landed_at (probe_outcome batch order limit) order.side (left - 1) raising.price other.price ≡ walked_all (probe_outcome batch order limit) base order.side first
    walks_land optimal not_raised =
        sym (all ∙ then_of (is_optimal ((probe_outcome batch order limit) other.price)) _ _ (ap is_optimal (sym is) ∙ optimal) ∙ else_of (is_raised base ((probe_outcome batch order limit) other.price)) _ _ (ap (is_raised base) (sym is) ∙ not_raised))

-- ---- where a walk ends between two prices
module _ (batch : Batch) (order : Order) (limit left : ℕ) (ends : Ends)
    (raises : IsProbed batch order limit ends.raising) (beside : IsProbed batch order limit ends.other) where
  pub lands_beside : (price : ℕ) → price ≡ next_better order.side ends.other.price → price ≡ ends.raising.price
      → At price ends.raising.outcome (Some ends.other.outcome) ≡ landed_at (probe_outcome batch order limit) order.side left ends.raising.price ends.other.price
  lands_beside price at same =
      sym (
      then_of (next_better order.side ends.other.price == ends.raising.price) _ _ (eq-eqb (next_better order.side ends.other.price) ends.raising.price (sym at ∙ same))
      ∙ (λ i. At (sym same i) (sym raises.is i) (Some (sym beside.is i)))
      )

  pub lands_spent : (price : ℕ) → price ≡ next_better order.side ends.other.price → left ≡ 0 → (price ≡ ends.raising.price → ⊥) → Spent ≡ landed_at (probe_outcome batch order limit) order.side left ends.raising.price ends.other.price
  lands_spent price at none off =
      sym (else_of (next_better order.side ends.other.price == ends.raising.price) _ _ (ne_eqb (next_better order.side ends.other.price) ends.raising.price (λ e. off (at ∙ e))) ∙ ap (λ (n : ℕ). above_of (probe_outcome batch order limit) n (next_better order.side ends.other.price) ends.other.price) none)

  module _ (some : 0 < left) (above : Probed) (off : above.price ≡ ends.raising.price → ⊥) (at : above.price ≡ next_better order.side ends.other.price) (is : above.outcome ≡ probe_outcome batch order limit above.price) where
    found : landed_at (probe_outcome batch order limit) order.side left ends.raising.price ends.other.price ≡ above_of (probe_outcome batch order limit) (suc (left - 1)) above.price ends.other.price
    found =
        let e : left ≡ suc (left - 1) = omega (arith, some) in
        else_of (next_better order.side ends.other.price == ends.raising.price) _ _ (ne_eqb (next_better order.side ends.other.price) ends.raising.price (λ e. off (at ∙ e))) ∙ (λ i. above_of (probe_outcome batch order limit) (e i) (sym at i) ends.other.price)

    pub lands_unmarked : is_optimal above.outcome ≡ false → Unmarked above.price above.outcome ≡ landed_at (probe_outcome batch order limit) order.side left ends.raising.price ends.other.price
    lands_unmarked not_optimal =
        sym (found ∙ else_of (is_optimal ((probe_outcome batch order limit) above.price)) _ _ (ap is_optimal (sym is) ∙ not_optimal) ∙ ap (λ (o : Outcome). Unmarked above.price o) (sym is))

    pub lands_at : is_optimal above.outcome ≡ true → At above.price above.outcome (Some ends.other.outcome) ≡ landed_at (probe_outcome batch order limit) order.side left ends.raising.price ends.other.price
    lands_at optimal =
        sym (
        found ∙ then_of (is_optimal ((probe_outcome batch order limit) above.price)) _ _ (ap is_optimal (sym is) ∙ optimal)
        ∙ (λ i. At above.price (sym is i) (Some (sym beside.is i)))
        )

-- ---- from the best price, and from the batch
from_price : (ℕ → Outcome) → Outcome → Side → ℕ → SidePrice
from_price f base side price =
    if is_optimal (f price)
    then if is_raised base (f price) then walked_all f base side price else Never (f price)
    else Unmarked price (f price)

module _ (batch : Batch) (order : Order) (limit : ℕ) (base : Outcome) (best : Probed) (first : base ≡ outcome_of batch limit) (at : best.price ≡ best_price order.side) (is : best.outcome ≡ probe_outcome batch order limit best.price) where
  from : from_price (probe_outcome batch order limit) base order.side best.price ≡ side_price batch order limit
  unfolding from_price side_price
  from = λ i. from_price (probe_outcome batch order limit) (first i) order.side (at i)

  pub best_unmarked : is_optimal best.outcome ≡ false → Unmarked best.price best.outcome ≡ side_price batch order limit
  unfolding from_price
  best_unmarked not_optimal =
      ap (λ (o : Outcome). Unmarked best.price o) is ∙ sym (else_of (is_optimal ((probe_outcome batch order limit) best.price)) _ _ (ap is_optimal (sym is) ∙ not_optimal)) ∙ from

  pub best_never : is_optimal best.outcome ≡ true → is_raised base best.outcome ≡ false → Never best.outcome ≡ side_price batch order limit
  unfolding from_price
  best_never optimal not_raised =
      ap (λ (o : Outcome). Never o) is
      ∙ sym (then_of (is_optimal ((probe_outcome batch order limit) best.price)) _ _ (ap is_optimal (sym is) ∙ optimal) ∙ else_of (is_raised base ((probe_outcome batch order limit) best.price)) _ _ (ap (is_raised base) (sym is) ∙ not_raised))
      ∙ from

  pub best_on : is_optimal best.outcome ≡ true → is_raised base best.outcome ≡ true → walked_all (probe_outcome batch order limit) base order.side best.price ≡ side_price batch order limit
  unfolding from_price
  best_on optimal raised =
      sym (then_of (is_optimal ((probe_outcome batch order limit) best.price)) _ _ (ap is_optimal (sym is) ∙ optimal) ∙ then_of (is_raised base ((probe_outcome batch order limit) best.price)) _ _ (ap (is_raised base) (sym is) ∙ raised))
      ∙ from

pub base_unmarked : (batch : Batch) (buy sell : Order) (limit : ℕ) (base : Outcome) → base ≡ outcome_of batch limit → is_optimal base ≡ false → market.Unmarked base ≡ prices_for batch buy sell limit
base_unmarked batch buy sell limit base is not_optimal =
    ap (λ (o : Outcome). market.Unmarked o) is ∙ sym (else_of (is_optimal (outcome_of batch limit)) _ _ (ap is_optimal (sym is) ∙ not_optimal))

pub base_marked : (batch : Batch) (buy sell : Order) (limit : ℕ) (base : Outcome) (ask bid : SidePrice) → base ≡ outcome_of batch limit → is_optimal base ≡ true
    → ask ≡ side_price batch buy limit → bid ≡ side_price batch sell limit → market.Marked base ask bid ≡ prices_for batch buy sell limit
base_marked batch buy sell limit base ask bid is optimal asks bids =
    (λ i. market.Marked (is i) (asks i) (bids i)) ∙ sym (then_of (is_optimal (outcome_of batch limit)) _ _ (ap is_optimal (sym is) ∙ optimal))
