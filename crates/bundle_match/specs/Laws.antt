-- What the match of each bundle by itself implies.
use Rattle.std.specs.Prelude.{ℕ, ◌≡◌, ◌<◌, List, [], Some, pos, ◌*ℤ◌, ◌≤ℤ◌}
use Rattle.std.specs.List.{zip, All, slice_get}
use Rattle.std.specs.Option.{option_map_or}
use Rattle.exact_num.specs.Fraction.{whole}
use Rattle.form.specs.declared.orders.Order.{Order}
use Rattle.form.specs.declared.orders.Side.{Side}
use Rattle.form.specs.declared.orders.Side.TheVariants.{Buy, Sell}
use Rattle.clearing_model.specs.Balance.{AreBalanced}
use Rattle.clearing_model.specs.Clearing.{Filled, AreFills, net, premium, Covers}
use Rattle.form.specs.Payoff.{BundleLeg, bundle_of}
use Rattle.bundle_match.specs.declared.queues.Offer.{Offer}
use Rattle.bundle_match.specs.Auction.{next_trade, trade_then, auction}
use Rattle.bundle_match.specs.Match.{fill_of, match_by_bundle}

-- the orders with their matched fills
abbrev pub match_of : List Order → List Filled
match_of orders = zip orders (match_by_bundle orders)

-- an auction makes its next trade and goes on with what that leaves of the queues, and ends where
-- there is none
abbrev pub AuctionGoesOn : Type 0
AuctionGoesOn =
    (buys sells : List Offer)
    → auction buys sells ≡ option_map_or (trade_then auction buys sells) (next_trade buys sells) []

-- each order is filled, order by order, by the auction of the two queues of its own bundle
abbrev pub AreFilledByAuction : List Order → List ℕ → Type 0
AreFilledByAuction orders fills =
    (place : ℕ) (order : Order)
    → slice_get orders place ≡ Some order → slice_get fills place ≡ Some (fill_of orders place order)

abbrev pub MatchIsTheAuction : Type 0
MatchIsTheAuction = (orders : List Order) → AreFilledByAuction orders (match_by_bundle orders)

-- no order is filled past its quantity
abbrev pub MatchIsWithin : Type 0
MatchIsWithin = (orders : List Order) → AreFills orders (match_by_bundle orders) 1

-- of each bundle as much is bought as sold
abbrev pub MatchIsBalanced : Type 0
MatchIsBalanced = (orders : List Order) → AreBalanced (match_of orders)

-- so nothing is owed at any state
abbrev pub OwesNothing : List Filled → Type 0
OwesNothing fills = (z : List ℕ) → net fills z ≡ pos 0

abbrev pub MatchOwesNothing : Type 0
MatchOwesNothing = (orders : List Order) → OwesNothing (match_of orders)

-- buyers pay no less than sellers get
abbrev pub MatchEarns : Type 0
MatchEarns = (orders : List Order) → pos 0 ≤ℤ premium (match_of orders)

-- the match covers its premium at every settlement
abbrev pub MatchCovers : Type 0
MatchCovers =
    (n : ℕ) (orders : List Order) → Covers n (match_of orders) 1 (whole (premium (match_of orders)))

-- a limit is better than a price: a buyer would pay more, a seller would take less
abbrev pub IsBetter : Side → ℕ → ℕ → Type 0
IsBetter Buy limit price = price < limit
IsBetter Sell limit price = limit < price

-- an order whose limit is better than the price is filled whole, and one whose limit is worse is
-- not filled
abbrev pub IsFilledAt : ℕ → Filled → Type 0
IsFilledAt price fill =
    (IsBetter fill.0.side fill.0.price price → fill.1 ≡ fill.0.quantity)
    × (IsBetter fill.0.side price fill.0.price → fill.1 ≡ 0)

-- one price for each bundle parts its orders
abbrev pub MatchHasPrices : Type 0
MatchHasPrices =
    (orders : List Order)
    → (price : List BundleLeg → ℕ)
    × All (λ (fill : Filled). IsFilledAt (price (bundle_of fill.0)) fill) (match_of orders)

-- no fills g over F of the orders that sell of each bundle just what they buy of it earn more than
-- the fills m
abbrev pub IsBestBalanced : List Order → List ℕ → Type 0
IsBestBalanced orders m =
    (g : List ℕ) (F : ℕ) → AreFills orders g F → AreBalanced (zip orders g)
    → premium (zip orders g) ≤ℤ (premium (zip orders m) *ℤ pos F)

-- so the match is the best of the fills that balance each bundle
abbrev pub MatchIsTheBest : Type 0
MatchIsTheBest = (orders : List Order) → IsBestBalanced orders (match_by_bundle orders)
