-- Orders as they are placed.
use Rattle.std.specs.Prelude.{ℕ, ℤ, List, Option, Some, None, take}
use Rattle.form.specs.declared.orders.Side.{Side}
use Rattle.form.specs.declared.bundles.Bundle.{Bundle}
use Rattle.form.specs.BundleOf.{bundle_one}
use Rattle.form.specs.FormOf.{form_of}
use Rattle.order_book.specs.declared.new_order.NewOrder.{NewOrder}
use Rattle.command_text.specs.declared.command.Command.{Command}
use Rattle.command_text.specs.declared.command.Command.TheVariants as command
use Rattle.command_text.specs.declared.command.Kind.{Kind}
use Rattle.command_text.specs.Options.{option_by}

-- the order of a trade: one option, which has the first `count` of the weights
abbrev pub order_by : Side → ℕ → ℕ → Kind → ℤ → ℕ → ℕ → ℕ → List ℤ → NewOrder
order_by side account market kind strike price quantity count weights = record {
  account = account;
  market = market;
  side = side;
  bundle = bundle_one (form_of (option_by kind strike (take count weights)));
  price = price;
  quantity = quantity;
}

-- the order for a bundle
abbrev pub order_for : Side → ℕ → ℕ → ℕ → ℕ → Bundle → NewOrder
order_for side account market price quantity bundle = record {
  account = account;
  market = market;
  side = side;
  bundle = bundle;
  price = price;
  quantity = quantity;
}

-- the order that a command places, if it places one
abbrev pub order_of : Command → Option NewOrder
order_of (command.Open account) = None
order_of (command.Deposit account amount) = None
order_of (command.Withdraw account amount) = None
order_of (command.Market market underlyings) = None
order_of (command.Trade side account market kind strike price quantity count weights) = Some (order_by side account market kind strike price quantity count weights)
order_of (command.Bundle side account market price quantity bundle) = Some (order_for side account market price quantity bundle)
order_of (command.Cancel account order) = None
order_of (command.Clear market budget) = None
order_of (command.Settle market count prices) = None
order_of (command.Balance account) = None
