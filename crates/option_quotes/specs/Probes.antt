-- The probes of a quote, in their order.
use Rattle.std.specs.Prelude.{ℕ, suc, zero, ◌+◌, ◌-◌, ◌/◌, Bool, nat_le, List, [], ◌∷◌, ◌++◌, map, Option, Some, None, if◌then◌else◌}
use Rattle.std.specs.Ordering.{is_lt}
use Rattle.frac.specs.Value.{order_of}
use Rattle.form.specs.declared.forms.Form.{Form}
use Rattle.form.specs.declared.orders.Side.{Side}
use Rattle.form.specs.declared.orders.Side.TheVariants.{Buy, Sell}
use Rattle.form.specs.declared.orders.Order.{Order}
use Rattle.form.specs.declared.orders.Batch.{Batch}
use Rattle.form.specs.declared.limits.TheConstants.{MAX_PRICE}
use Rattle.form.specs.BundleOf.{bundle_one}
use Rattle.cert_check.specs.Conditions.{is_optimal_mark}
use Rattle.cert_check.specs.declared.outcome.Outcome.{Outcome}
use Rattle.clearing.specs.Outcome.{outcome_of}
use Rattle.market_laws.specs.Limits.{at_price}

-- the further order that is asked for, at price 0
abbrev pub further : Form → Side → Order
further form side = record {
  id = 1000001;
  account = 999999999;
  side = side;
  bundle = bundle_one form;
  price = 0;
  quantity = 1;
}

-- the batch with one order more at its end
abbrev pub with_order : Batch → Order → Batch
with_order batch order = record { underlyings = batch.underlyings; orders = batch.orders ++ order ∷ [] }

-- the outcome of the batch with the order at a price
abbrev pub probe_outcome : Batch → Order → ℕ → ℕ → Outcome
probe_outcome batch order limit price = outcome_of (with_order batch (at_price order price)) limit

-- the best price for a match, and the worst
abbrev pub best_price : Side → ℕ
best_price Buy = MAX_PRICE
best_price Sell = 0

abbrev pub worst_price : Side → ℕ
worst_price Buy = 0
worst_price Sell = MAX_PRICE

abbrev pub is_optimal : Outcome → Bool
is_optimal outcome = is_optimal_mark outcome.mark

-- the outcome's surplus is above the base's
abbrev pub is_raised : Outcome → Outcome → Bool
is_raised base outcome = is_lt (order_of base.claim.surplus outcome.claim.surplus)

-- how far two prices are apart, and the price in the middle
abbrev pub gap : ℕ → ℕ → ℕ
gap a b = (a - b) + (b - a)

abbrev pub middle : ℕ → ℕ → ℕ
middle a b = (a + b) / 2

-- the middles of the gap between a price that raises and one that does not, halved at most so many
-- times until the prices are next to each other: the half is kept in which the test changes
unfoldable pub middles : ℕ → (ℕ → Bool) → ℕ → ℕ → List ℕ
middles zero raises a b = []
middles (suc halvings) raises a b =
    if nat_le (gap a b) 1 then [] else middle a b ∷ (if raises (middle a b) then middles halvings raises (middle a b) b else middles halvings raises a (middle a b))

-- a probe: its price, which the base has not, and the outcome
abbrev pub Probe : Type 0
Probe = Option ℕ × Outcome

abbrev pub probe_at : (ℕ → Outcome) → ℕ → Probe
probe_at outcome price = (Some price, outcome price)

-- the probes between the two prices. The gap of all prices is below 2 ^ 40
abbrev pub probes_between : (ℕ → Outcome) → Outcome → ℕ → ℕ → ℕ → List Probe
probes_between outcome base halvings a b =
    map (probe_at outcome) (middles halvings (λ price. is_raised base (outcome price)) a b)

unfoldable pub most_halvings : ℕ
most_halvings = 40

-- those from the worst price on, and from the best price on
abbrev pub probes_from_worst : (ℕ → Outcome) → Outcome → Side → List Probe
probes_from_worst outcome base side =
    probe_at outcome (worst_price side)
    ∷ (if is_raised base (outcome (worst_price side)) then [] else probes_between outcome base most_halvings (best_price side) (worst_price side))

abbrev pub probes_from_best : (ℕ → Outcome) → Outcome → Side → List Probe
probes_from_best outcome base side =
    probe_at outcome (best_price side) ∷ (if is_raised base (outcome (best_price side)) then probes_from_worst outcome base side else [])

-- all probes, as they are made where each is marked optimal
abbrev pub probes : Batch → Order → ℕ → List Probe
probes batch order limit =
    let base = outcome_of batch limit in
    (None, base) ∷ probes_from_best (probe_outcome batch order limit) base order.side

-- the first that is not marked optimal
abbrev pub first_unmarked : List Probe → Option Probe
first_unmarked [] = None
first_unmarked (probe ∷ probes) = if is_optimal probe.1 then first_unmarked probes else Some probe
