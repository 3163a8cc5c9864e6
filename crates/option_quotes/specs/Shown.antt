-- What an implied price shows of a batch and a further order.
use Rattle.std.specs.Prelude.{ℕ, ◌≡◌, ◌≤◌, false, length, Option, Some, None}
use Rattle.form.specs.declared.orders.Order.{Order}
use Rattle.form.specs.declared.orders.Batch.{Batch}
use Rattle.form.specs.declared.limits.TheConstants.{MAX_PRICE}
use Rattle.cert_check.specs.declared.outcome.Outcome.{Outcome}
use Rattle.option_quotes.specs.declared.prices.SidePrice.{SidePrice}
use Rattle.option_quotes.specs.declared.prices.SidePrice.TheVariants.{At, Never, Unmarked, Spent}
use Rattle.option_quotes.specs.declared.prices.MarketPrices.{MarketPrices}
use Rattle.option_quotes.specs.declared.prices.MarketPrices.TheVariants as market
use Rattle.option_quotes.specs.Implied.{side_probes}
use Rattle.option_quotes.specs.Probes.{Probe, first_unmarked, is_optimal, probe_outcome}
use Rattle.option_quotes.specs.Quotes.{AreShown, IsNever, RaisesFrom}

-- the outcome is that of the batch with the order at this price, and it is not marked optimal
pub record IsStopped (batch : Batch) (order : Order) (limit price : ℕ) (outcome : Outcome) : Type 0 where
  pub within : price ≤ MAX_PRICE
  pub is : outcome ≡ probe_outcome batch order limit price
  pub unmarked : is_optimal outcome ≡ false

-- the order raises the surplus exactly at the whole prices that are no worse than this one, as the
-- outcomes at it and at the next worse one show; or at none; or the outcome at this price is not
-- marked
abbrev pub IsImplied : Batch → Order → ℕ → Outcome → SidePrice → Type 0
IsImplied batch order limit base (At price raising beside) = RaisesFrom batch order base price × AreShown batch order limit price raising beside base
IsImplied batch order limit base (Never extreme) = IsNever batch order limit extreme base
IsImplied batch order limit base (Unmarked price outcome) = IsStopped batch order limit price outcome
IsImplied batch order limit base Spent = Unit {0}

-- how the probes of a side end, of which so many are made at most: each is marked optimal; or the
-- first that is not is told; or all are, and one more was wanted
abbrev pub EndsBy : ℕ → Option Probe → ℕ → SidePrice → Type 0
EndsBy most unmarked count (At price raising beside) = unmarked ≡ None
EndsBy most unmarked count (Never extreme) = unmarked ≡ None
EndsBy most unmarked count (Unmarked price outcome) = unmarked ≡ Some (Some price, outcome)
EndsBy most unmarked count Spent = (unmarked ≡ None) × (count ≡ most)

-- there are at most 60
pub record EndsAsProbed (batch : Batch) (order : Order) (limit : ℕ) (found : SidePrice) : Type 0 where
  pub few : length (side_probes batch order limit) ≤ 60
  pub ends : EndsBy 60 (first_unmarked (side_probes batch order limit)) (length (side_probes batch order limit)) found

-- a fact of the prices of both sides
abbrev pub IfMarked : MarketPrices → (Outcome → SidePrice → SidePrice → Type 0) → Type 0
IfMarked (market.Marked base ask bid) P = P base ask bid
IfMarked (market.Unmarked base) P = Unit {0}
