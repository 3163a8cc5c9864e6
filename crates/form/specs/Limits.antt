-- Orders and batches within the limits of the exchange.
use Rattle.std.specs.Prelude.{◌+◌, ◌*◌, ◌≢◌, ◌≤◌, List, length, map, unsigned_abs, ℤ, pos}
use Rattle.std.specs.List.{All, Any}
use Rattle.std.specs.List.Sorted.{IsStrictlyIncreasing}
use Rattle.form.specs.declared.orders.Order.{Order}
use Rattle.form.specs.declared.orders.Batch.{Batch}
use Rattle.form.specs.declared.limits.TheConstants.{MAX_UNDERLYINGS, MAX_WEIGHT, MAX_STRIKE, MAX_PRICE, MAX_QUANTITY, MAX_OPTIONS, MAX_ORDERS}
use Rattle.form.specs.Vector.{strike_entry, weights_of}
use Rattle.form.specs.declared.legs.Leg.{Leg}
use Rattle.form.specs.Payoff.{option_of, legs_in, count_sizes, IsOnCount}

-- an option that a call or a put within the limits has; not all its weights are 0
pub record IsListed (v : List ℤ) : Type 0 where
  pub strike : unsigned_abs (strike_entry v) ≤ MAX_STRIKE
  pub weights : All (λ w. unsigned_abs w ≤ MAX_WEIGHT) (weights_of v)
  pub some_weight : Any (λ w. w ≢ pos 0) (weights_of v)

-- an order whose options, price and quantity are within the limits
pub record IsOrderWithin (order : Order) : Type 0 where
  pub options : All (λ (leg : Leg). IsListed (option_of leg.form)) (legs_in order.bundle)
  pub price : order.price ≤ MAX_PRICE
  pub some : 1 ≤ order.quantity
  pub quantity : order.quantity ≤ MAX_QUANTITY
  pub counted : order.quantity * count_sizes order.bundle ≤ MAX_OPTIONS

-- a market on 1 to 8 underlyings, and orders for bundles on just these
pub record HasItsForms (batch : Batch) : Type 0 where
  pub some : 1 ≤ batch.underlyings
  pub few : batch.underlyings ≤ MAX_UNDERLYINGS
  pub forms : All (λ (order : Order). IsOnCount (batch.underlyings + 1) order.bundle) batch.orders

-- such a batch with at most 256 orders, whose ids rise, each within the limits
pub record IsWithinLimits (batch : Batch) : Type 0 where
  pub has_forms : HasItsForms batch
  pub orders_fit : length batch.orders ≤ MAX_ORDERS
  pub ids_rise : IsStrictlyIncreasing (map (λ (order : Order). order.id) batch.orders)
  pub orders_within : All IsOrderWithin batch.orders
