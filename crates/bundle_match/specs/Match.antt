-- The match of each bundle by itself: each order is filled by the auction of its own bundle.
use Rattle.std.specs.Prelude.{ℕ, ◌+◌, List, [], ◌∷◌}
use Rattle.form.specs.declared.orders.Order.{Order}
use Rattle.form.specs.declared.orders.Side.TheVariants.{Buy, Sell}
use Rattle.form.specs.Payoff.{BundleLeg, bundle_of}
use Rattle.bundle_match.specs.declared.auction.Trade.{Trade}
use Rattle.bundle_match.specs.Auction.{auction, fill_at}
use Rattle.bundle_match.specs.Queue.{queue_of}

-- the trades of the auction of a bundle
abbrev pub trades_of : List Order → List BundleLeg → List Trade
trades_of orders bundle = auction (queue_of Buy bundle orders) (queue_of Sell bundle orders)

-- what the auction of its bundle fills of an order of the batch, which stands at a place
abbrev pub fill_of : List Order → ℕ → Order → ℕ
fill_of batch place order = fill_at order.side place (trades_of batch (bundle_of order))

-- the fills of orders of the batch, the first of which stands at a place
abbrev pub fills_from : List Order → ℕ → List Order → List ℕ
fills_from batch place [] = []
fills_from batch place (order ∷ orders) =
    fill_of batch place order ∷ fills_from batch (place + 1) orders

-- the fills of the orders in whole numbers
abbrev pub match_by_bundle : List Order → List ℕ
match_by_bundle orders = fills_from orders 0 orders
