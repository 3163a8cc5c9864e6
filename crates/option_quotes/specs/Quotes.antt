-- What a quote says of a batch and a further order.
use Rattle.std.specs.Prelude.{ℕ, ◌+◌, ◌≡◌, ◌≤◌, ◌↔◌, true, List, Option, Some, None, pos, ◌*ℤ◌, ◌<ℤ◌}
use Rattle.exact_num.specs.Fraction.{Fraction, IsDefined}
use Rattle.frac.specs.Range.{limit as largest}
use Rattle.frac.specs.Value.{fraction_of}
use Rattle.form.specs.declared.orders.Side.{Side}
use Rattle.form.specs.declared.orders.Side.TheVariants.{Buy, Sell}
use Rattle.form.specs.declared.orders.Order.{Order}
use Rattle.form.specs.declared.orders.Batch.{Batch}
use Rattle.form.specs.declared.limits.TheConstants.{MAX_PRICE}
use Rattle.cert_check.specs.declared.outcome.Outcome.{Outcome}
use Rattle.cert_check.specs.declared.outcome.Verdict.TheVariants.{Yes}
use Rattle.cert_check.specs.Events.{verdict_of}
use Rattle.clearing.specs.Outcome.{outcome_of}
use Rattle.option_quotes.specs.declared.quotes.Quoted.{Quoted}
use Rattle.option_quotes.specs.declared.quotes.Quoted.TheVariants.{At, Never, Unmarked}
use Rattle.market_laws.specs.Limits.{at_price, IsNoWorse, FillsCoverAt}
use Rattle.option_quotes.specs.Probes.{Probe, best_price, worst_price, is_optimal, with_order}

-- the value of x is below that of y
abbrev pub IsBelow : Fraction → Fraction → Type 0
IsBelow x y = (x.numerator *ℤ pos y.denominator) <ℤ (y.numerator *ℤ pos x.denominator)

-- some fills of the orders cover a number above s
abbrev pub CoversAbove : ℕ → List Order → Fraction → Type 0
CoversAbove n orders s =
    (g : List ℕ) × (F : ℕ) × (S : Fraction) × IsDefined S × IsBelow s S × FillsCoverAt n orders g F S

-- some fills of the batch with the order at this price cover a number above s
abbrev pub RaisesAbove : Batch → Order → Fraction → ℕ → Type 0
RaisesAbove batch order s price = CoversAbove batch.underlyings (with_order batch (at_price order price)).orders s

-- a number above the base's surplus
abbrev pub Raises : Batch → Order → Outcome → ℕ → Type 0
Raises batch order base price = RaisesAbove batch order (fraction_of base.claim.surplus) price

-- a whole price raises the surplus exactly where it is no worse for a match than this one
abbrev pub RaisesFrom : Batch → Order → Outcome → ℕ → Type 0
RaisesFrom batch order base price =
    (p : ℕ) → p ≤ MAX_PRICE → Raises batch order base p ↔ IsNoWorse order.side price p

-- no whole price raises it
abbrev pub NeverRaises : Batch → Order → Outcome → Type 0
NeverRaises batch order base = (p : ℕ) → p ≤ MAX_PRICE → ¬ (Raises batch order base p)

-- the outcome is that of the batch; it is judged yes and marked optimal
pub record IsShown (batch : Batch) (limit : ℕ) (outcome : Outcome) : Type 0 where
  pub is : outcome ≡ outcome_of batch limit
  pub yes : verdict_of largest batch outcome ≡ Yes
  pub optimal : is_optimal outcome ≡ true

-- so is that of the batch with the order at this price
abbrev pub IsShownAt : Batch → Order → ℕ → ℕ → Outcome → Type 0
IsShownAt batch order limit price = IsShown (with_order batch (at_price order price)) limit

-- the price p is the next worse one for a match
abbrev pub IsNextWorse : Side → ℕ → ℕ → Type 0
IsNextWorse Buy price p = price ≡ p + 1
IsNextWorse Sell price p = p ≡ price + 1

-- the outcome at the next worse price, and none exactly where the price is the worst
abbrev pub IsBeside : Batch → Order → ℕ → ℕ → Option Outcome → Type 0
IsBeside batch order limit price None = price ≡ worst_price order.side
IsBeside batch order limit price (Some outcome) =
    (p : ℕ) × IsNextWorse order.side price p × (p ≤ MAX_PRICE) × IsShownAt batch order limit p outcome

-- the outcomes at a price that raises and at the next worse one, and that without the order
pub record AreShown (batch : Batch) (order : Order) (limit price : ℕ) (raising : Outcome) (beside : Option Outcome) (base : Outcome) : Type 0 where
  pub price_within : price ≤ MAX_PRICE
  pub raising_shown : IsShownAt batch order limit price raising
  pub beside_shown : IsBeside batch order limit price beside
  pub base_shown : IsShown batch limit base

-- the outcome at the best price, and that without the order; and no price raises
pub record IsNever (batch : Batch) (order : Order) (limit : ℕ) (extreme base : Outcome) : Type 0 where
  pub none : NeverRaises batch order base
  pub extreme_shown : IsShownAt batch order limit (best_price order.side) extreme
  pub base_shown : IsShown batch limit base

-- a fact of a quote at a price, and of one that never comes
abbrev pub IfAt : Quoted → (ℕ → Outcome → Option Outcome → Outcome → Type 0) → Type 0
IfAt (At price raising beside base) P = P price raising beside base
IfAt (Never extreme base) P = Unit {0}
IfAt (Unmarked probe outcome) P = Unit {0}

abbrev pub IfNever : Quoted → (Outcome → Outcome → Type 0) → Type 0
IfNever (At price raising beside base) P = Unit {0}
IfNever (Never extreme base) P = P extreme base
IfNever (Unmarked probe outcome) P = Unit {0}

-- the probe that ended a quote
abbrev pub unmarked_of : Quoted → Option Probe
unmarked_of (At price raising beside base) = None
unmarked_of (Never extreme base) = None
unmarked_of (Unmarked probe outcome) = Some (probe, outcome)

-- all of it
pub record IsQuote (batch : Batch) (order : Order) (limit : ℕ) (quoted : Quoted) : Type 0 where
  pub raises : IfAt quoted (λ price raising beside base. RaisesFrom batch order base price)
  pub shown : IfAt quoted (AreShown batch order limit)
  pub never : IfNever quoted (IsNever batch order limit)
