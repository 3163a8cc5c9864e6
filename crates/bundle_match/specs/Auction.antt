-- The double auction of one bundle, over its two queues.
--
-- While both queues have orders and the first buy's price is above the first sell's, the smaller of
-- the two quantities left is filled in both. An order of which nothing is left leaves its queue.
use Rattle.std.specs.Prelude.{ℕ, zero, suc, ◌+◌, ◌-◌, ◌==◌, nat_lt, min, List, [], ◌∷◌, length, Option, Some, None, if◌then◌else◌}
use Rattle.std.specs.List.{sum_by}
use Rattle.std.specs.Option.{option_map_or}
use Rattle.form.specs.declared.orders.Side.{Side}
use Rattle.form.specs.declared.orders.Side.TheVariants.{Buy, Sell}
use Rattle.bundle_match.specs.declared.queues.Offer.{Offer}
use Rattle.bundle_match.specs.declared.auction.Trade.{Trade}

abbrev pub next_trade : List Offer → List Offer → Option Trade
next_trade [] sells = None
next_trade (buy ∷ buys) [] = None
next_trade (buy ∷ buys) (sell ∷ sells) =
    if nat_lt sell.price buy.price
    then Some (record { buy = buy.place; sell = sell.place; amount = min buy.left sell.left })
    else None

-- a queue after its first order was filled by an amount
abbrev pub fill_first : ℕ → List Offer → List Offer
fill_first amount [] = []
fill_first amount (first ∷ later) =
    if amount == first.left then later else record first { left = first.left - amount } ∷ later

-- a trade, and those that follow where it has filled both queues
abbrev pub trade_then : (List Offer → List Offer → List Trade) → List Offer → List Offer → Trade → List Trade
trade_then follow buys sells trade =
    trade ∷ follow (fill_first trade.amount buys) (fill_first trade.amount sells)

-- at most so many trades, one after another
abbrev pub trades_within : ℕ → List Offer → List Offer → List Trade
trades_within zero buys sells = []
trades_within (suc more) buys sells =
    option_map_or (trade_then (trades_within more) buys sells) (next_trade buys sells) []

-- all trades of two queues. Each takes an order from its queue, so they are no more than the orders
abbrev pub auction : List Offer → List Offer → List Trade
auction buys sells = trades_within (length buys + length sells) buys sells

-- the place of the order on a side
abbrev pub place_on : Side → Trade → ℕ
place_on Buy trade = trade.buy
place_on Sell trade = trade.sell

abbrev pub amount_at : Side → ℕ → Trade → ℕ
amount_at side place trade = if place_on side trade == place then trade.amount else 0

-- what trades fill of the order on a side at a place
abbrev pub fill_at : Side → ℕ → List Trade → ℕ
fill_at side place trades = sum_by (amount_at side place) trades
