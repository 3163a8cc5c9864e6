-- What a quote and an implied price tell of the greatest surplus of a batch.
use Rattle.std.specs.Prelude.{ℕ, ◌+◌, ◌≡◌, ◌≤◌, ◌↔◌, ◌⊎◌, false, length, Some, None}
use Rattle.std.specs.List.{All}
use Rattle.exact_num.specs.Fraction.{Fraction}
use Rattle.form.specs.declared.forms.Form.{Form}
use Rattle.form.specs.declared.orders.Side.TheVariants.{Buy, Sell}
use Rattle.form.specs.declared.orders.Order.{Order}
use Rattle.form.specs.declared.orders.Batch.{Batch}
use Rattle.form.specs.declared.limits.TheConstants.{MAX_ORDER, MAX_PRICE}
use Rattle.form.specs.Limits.{IsListed, IsWithinLimits}
use Rattle.form.specs.Payoff.{option_of}
use Rattle.clearing_model.specs.Clearing.{IsGreatest}
use Rattle.cert_check.specs.declared.outcome.Outcome.{Outcome}
use Rattle.clearing.specs.Outcome.{outcome_of}
use Rattle.market_laws.specs.Limits.{IsNoWorse}
use Rattle.option_quotes.specs.declared.prices.MarketPrices.{MarketPrices}
use Rattle.option_quotes.specs.declared.prices.MarketPrices.TheVariants as market
use Rattle.option_quotes.specs.declared.prices.SidePrice.{SidePrice}
use Rattle.option_quotes.specs.declared.prices.SidePrice.TheVariants as side
use Rattle.option_quotes.specs.declared.quotes.Quoted.{Quoted}
use Rattle.option_quotes.specs.declared.quotes.Quoted.TheVariants.{At, Never, Unmarked}
use Rattle.option_quotes.specs.Implied.{asked, side_price, side_probes}
use Rattle.option_quotes.specs.Probes.{Probe, first_unmarked, is_optimal, probes}
use Rattle.option_quotes.specs.Quotes.{RaisesAbove}

-- a batch within the limits with room for one order more, and an option on its underlyings that may
-- be listed
pub record MayBeQuoted (batch : Batch) (form : Form) : Type 0 where
  pub within : IsWithinLimits batch
  pub room : length batch.orders ≤ 255
  pub ids : All (λ (order : Order). order.id ≤ MAX_ORDER) batch.orders
  pub listed : IsListed (option_of form)
  pub on : form.count ≡ batch.underlyings + 1

-- the order raises the greatest surplus of the batch exactly at the whole prices that are no worse
-- for a match than this one
abbrev pub RaisesGreatestFrom : Batch → Order → ℕ → Type 0
RaisesGreatestFrom batch order price =
    (price ≤ MAX_PRICE) × (S : Fraction) × IsGreatest batch.underlyings batch.orders S
    × ((p : ℕ) → p ≤ MAX_PRICE → RaisesAbove batch order S p ↔ IsNoWorse order.side price p)

-- it raises it at no whole price
abbrev pub NeverRaisesGreatest : Batch → Order → Type 0
NeverRaisesGreatest batch order =
    (S : Fraction) × IsGreatest batch.underlyings batch.orders S
    × ((p : ℕ) → p ≤ MAX_PRICE → ¬ (RaisesAbove batch order S p))

-- what a quote tells: each clear that it makes is marked optimal, or the first that is not
abbrev pub Tells : Batch → Order → ℕ → Quoted → Type 0
Tells batch order limit (At price raising beside base) =
    RaisesGreatestFrom batch order price × (first_unmarked (probes batch order limit) ≡ None)
Tells batch order limit (Never extreme base) =
    NeverRaisesGreatest batch order × (first_unmarked (probes batch order limit) ≡ None)
Tells batch order limit (Unmarked probe outcome) = first_unmarked (probes batch order limit) ≡ Some (probe, outcome)

-- all 60 probes that a side may have are marked optimal, and one more was wanted
pub record IsSpent (batch : Batch) (order : Order) (limit : ℕ) : Type 0 where
  pub marked : first_unmarked (side_probes batch order limit) ≡ None
  pub all : length (side_probes batch order limit) ≡ 60
  pub wanted : side_price batch order limit ≡ side.Spent

-- what the price of a side tells, where the outcome of the batch itself is marked optimal: each of
-- its probes is marked optimal, or the first that is not; or all 60 are, and one more was wanted
abbrev pub TellsSide : Batch → Order → ℕ → SidePrice → Type 0
TellsSide batch order limit (side.At price raising beside) =
    RaisesGreatestFrom batch order price × (first_unmarked (side_probes batch order limit) ≡ None)
TellsSide batch order limit (side.Never extreme) =
    NeverRaisesGreatest batch order × (first_unmarked (side_probes batch order limit) ≡ None)
TellsSide batch order limit (side.Unmarked price outcome) = first_unmarked (side_probes batch order limit) ≡ Some (Some price, outcome)
TellsSide batch order limit side.Spent = IsSpent batch order limit

-- the outcome is that of the batch itself, and it is not marked optimal
abbrev pub IsUnmarked : Batch → ℕ → Outcome → Type 0
IsUnmarked batch limit base = (base ≡ outcome_of batch limit) × (is_optimal base ≡ false)

-- what the prices of both sides tell
abbrev pub TellPrices : Batch → Form → ℕ → ℕ → MarketPrices → Type 0
TellPrices batch form quantity limit (market.Marked base ask bid) =
    TellsSide batch (asked form Buy quantity) limit ask × TellsSide batch (asked form Sell quantity) limit bid
TellPrices batch form quantity limit (market.Unmarked base) = IsUnmarked batch limit base

-- why no price of the order is found: the clear of the batch is not marked optimal; or this is the
-- first of those of the batch with the order that is not; or all 60 are, and one more was wanted
abbrev pub IsUnfound : Batch → Order → ℕ → Type 0
IsUnfound batch order limit =
    ((base : Outcome) × IsUnmarked batch limit base)
    ⊎ ((probe : Probe) × (first_unmarked (side_probes batch order limit) ≡ Some probe))
    ⊎ IsSpent batch order limit
