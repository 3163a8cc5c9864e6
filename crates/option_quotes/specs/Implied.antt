-- The price from which on a further order raises the greatest surplus, found along lines: each
-- probe that raises it tells the next.
use Rattle.std.specs.Prelude.{ℕ, suc, zero, ◌+◌, ◌-◌, ◌==◌, max, min, List, [], ◌∷◌, Some, None, slice_get, length, if◌then◌else◌}
use Rattle.std.specs.Option.{option_map_or}
use Rattle.frac.specs.Value.{fraction_of}
use Rattle.frac.specs.declared.frac128.Frac128.{Frac128}
use Rattle.newton_step.specs.Step.{whole_steps}
use Rattle.form.specs.declared.forms.Form.{Form}
use Rattle.form.specs.declared.orders.Side.{Side}
use Rattle.form.specs.declared.orders.Side.TheVariants.{Buy, Sell}
use Rattle.form.specs.declared.orders.Order.{Order}
use Rattle.form.specs.declared.orders.Batch.{Batch}
use Rattle.form.specs.declared.limits.TheConstants.{MAX_PRICE}
use Rattle.cert_check.specs.declared.outcome.Outcome.{Outcome}
use Rattle.clearing.specs.Outcome.{outcome_of}
use Rattle.option_quotes.specs.declared.prices.MarketPrices.{MarketPrices}
use Rattle.option_quotes.specs.declared.prices.MarketPrices.TheVariants as market
use Rattle.option_quotes.specs.declared.prices.SidePrice.{SidePrice}
use Rattle.option_quotes.specs.declared.prices.SidePrice.TheVariants.{At, Never, Unmarked, Spent}
use Rattle.option_quotes.specs.Probes.{Probe, best_price, further, is_optimal, is_raised, probe_at, probe_outcome, worst_price}

-- the further order of so many bundles, at price 0
abbrev pub asked : Form → Side → ℕ → Order
asked form side quantity = record {
  id = 1000001;
  account = 999999999;
  side = side;
  bundle = (further form side).bundle;
  price = 0;
  quantity = quantity;
}

-- (V - V0) / x rounded down: by so many ticks the price may get worse until the line through the
-- outcome's surplus V, whose slope is the order's fill x, is at the base's surplus V0
abbrev pub ticks_by : Outcome → Outcome → Frac128 → ℕ
ticks_by base outcome fill = whole_steps (fraction_of outcome.claim.surplus) (fraction_of base.claim.surplus) (fraction_of fill)

-- the order is the last of the batch
abbrev pub ticks_along : Outcome → Outcome → ℕ
ticks_along base outcome = option_map_or (ticks_by base outcome) (slice_get outcome.fills (length outcome.fills - 1)) 0

-- the price so many ticks worse, and at least one
abbrev pub price_along : Side → ℕ → ℕ → ℕ
price_along Buy price ticks = price - max 1 ticks
price_along Sell price ticks = min MAX_PRICE (price + max 1 ticks)

-- the next price, from one with this outcome
abbrev pub next_along : Outcome → Side → ℕ → Outcome → ℕ
next_along base side price outcome = price_along side price (ticks_along base outcome)

-- the next better price for a match
abbrev pub next_better : Side → ℕ → ℕ
next_better Buy price = price + 1
next_better Sell price = price - 1

-- the answer at the price beside one that does not raise, which is probed if a probe is left
abbrev pub above_of : (ℕ → Outcome) → ℕ → ℕ → ℕ → SidePrice
above_of f zero above other = Spent
above_of f (suc left) above other = if is_optimal (f above) then At above (f above) (Some (f other)) else Unmarked above (f above)

-- where it is the last price that raised, it is not probed again
abbrev pub landed_at : (ℕ → Outcome) → Side → ℕ → ℕ → ℕ → SidePrice
landed_at f side left price other =
    if next_better side other == price then At price (f price) (Some (f other)) else above_of f left (next_better side other) other

-- from a price that raises, with so many probes left
unfoldable pub walked_from : (ℕ → Outcome) → Outcome → Side → ℕ → ℕ → SidePrice
walked_from f base side zero price = if price == worst_price side then At price (f price) None else Spent
walked_from f base side (suc left) price =
    if price == worst_price side
    then At price (f price) None
    else
    let other = next_along base side price (f price) in
    if is_optimal (f other)
    then if is_raised base (f other) then walked_from f base side left other else landed_at f side left price other
    else Unmarked other (f other)

-- a side has at most so many probes behind that at the best price
unfoldable pub most_walked : ℕ
most_walked = 59

unfoldable pub walked_all : (ℕ → Outcome) → Outcome → Side → ℕ → SidePrice
walked_all f base side price = walked_from f base side most_walked price

abbrev pub price_from_best : (ℕ → Outcome) → Outcome → Side → SidePrice
price_from_best f base side =
    let best = best_price side in
    if is_optimal (f best)
    then if is_raised base (f best) then walked_all f base side best else Never (f best)
    else Unmarked best (f best)

-- ---- the probes of a side, as they are made where each is marked optimal
abbrev pub above_probes : (ℕ → Outcome) → ℕ → ℕ → List Probe
above_probes f zero above = []
above_probes f (suc left) above = probe_at f above ∷ []

abbrev pub landed_probes : (ℕ → Outcome) → Side → ℕ → ℕ → ℕ → List Probe
landed_probes f side left price other = if next_better side other == price then [] else above_probes f left (next_better side other)

-- from a price that raises, with so many left
unfoldable pub walked_probes : (ℕ → Outcome) → Outcome → Side → ℕ → ℕ → List Probe
walked_probes f base side zero price = []
walked_probes f base side (suc left) price =
    if price == worst_price side
    then []
    else
    let other = next_along base side price (f price) in
    probe_at f other ∷ (if is_raised base (f other) then walked_probes f base side left other else landed_probes f side left price other)

unfoldable pub probes_along : (ℕ → Outcome) → Outcome → Side → List Probe
probes_along f base side =
    let best = best_price side in
    probe_at f best ∷ (if is_raised base (f best) then walked_probes f base side most_walked best else [])

abbrev pub side_probes : Batch → Order → ℕ → List Probe
side_probes batch order limit = probes_along (probe_outcome batch order limit) (outcome_of batch limit) order.side

-- ---- the prices
-- the price of one side, where the outcome of the batch itself is marked optimal
unfoldable pub side_price : Batch → Order → ℕ → SidePrice
side_price batch order limit = price_from_best (probe_outcome batch order limit) (outcome_of batch limit) order.side

-- the prices of two further orders
abbrev pub prices_for : Batch → Order → Order → ℕ → MarketPrices
prices_for batch buy sell limit =
    let base = outcome_of batch limit in
    if is_optimal base then market.Marked base (side_price batch buy limit) (side_price batch sell limit) else market.Unmarked base

-- the prices of both sides: that of a further buy is what the market asks, that of a further sell
-- what it bids
unfoldable pub prices_of : Batch → Form → ℕ → ℕ → MarketPrices
prices_of batch form quantity limit = prices_for batch (asked form Buy quantity) (asked form Sell quantity) limit
