-- Orders within the limits of the exchange.
use Rattle.std.specs.Prelude.{◌*◌, ◌≤◌}
use Rattle.std.specs.List.{All}
use Rattle.form.specs.declared.limits.TheConstants.{MAX_PRICE, MAX_QUANTITY, MAX_OPTIONS}
use Rattle.form.specs.Limits.{IsListed}
use Rattle.form.specs.declared.legs.Leg.{Leg}
use Rattle.form.specs.Payoff.{option_of, legs_in, count_sizes}
use Rattle.order_book.specs.declared.new_order.NewOrder.{NewOrder}

-- an order whose options, price and quantity are within the limits
pub record IsNewOrderWithin (order : NewOrder) : Type 0 where
  pub options : All (λ (leg : Leg). IsListed (option_of leg.form)) (legs_in order.bundle)
  pub price : order.price ≤ MAX_PRICE
  pub some : 1 ≤ order.quantity
  pub quantity : order.quantity ≤ MAX_QUANTITY
  pub counted : order.quantity * count_sizes order.bundle ≤ MAX_OPTIONS
