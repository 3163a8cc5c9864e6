-- The refusals of each call, each with its condition, in the order in which they are tried.
use Rattle.std.specs.Prelude.{ℕ, ◌+◌, List, [], ◌∷◌, ◌++◌, Bool, false, not, Option, Some, None, is_some, nat_eq, nat_le, length}
use Rattle.std.specs.Option.{option_map_or}
use Rattle.form.specs.declared.limits.TheConstants.{MAX_ORDERS, MAX_ORDER}
use Rattle.form.specs.declared.orders.Order.{Order}
use Rattle.form.specs.Bundles.{is_on_count}
use Rattle.limits.specs.declared.TheConstants.{MAX_MARKETS, MAX_BATCHES}
use Rattle.order_book.specs.declared.market.MarketInfo.{MarketInfo}
use Rattle.order_book.specs.declared.new_order.NewOrder.{NewOrder}
use Rattle.order_book.specs.declared.refusal.BookRefusal.{BookRefusal}
use Rattle.order_book.specs.declared.refusal.BookRefusal.TheVariants.{NoMarket, MarketExists, Settled, WeightCount, BookFull, NoOrder, NotOwner, TooMany, Memory}
use Rattle.order_book.specs.Book.{BookState, info_in, market_has, order_of}

-- the refusal; want of memory is none
abbrev pub unless_memory : BookRefusal → Option BookRefusal
unless_memory Memory = None
unless_memory refusal = Some refusal

-- ---- the conditions
-- there is a market with the number
abbrev pub is_market : BookState → ℕ → Bool
is_market book market = is_some (info_in book market)

abbrev pub is_settled : BookState → ℕ → Bool
is_settled book market = market_has book market (λ found. found.settled)

-- each option of an order has as many weights as a market has underlyings
abbrev pub has_form_for : MarketInfo → NewOrder → Bool
has_form_for market order = is_on_count (market.underlyings + 1) order.bundle

-- a market has as many live orders as it may have
abbrev pub is_full : MarketInfo → Bool
is_full market = nat_le MAX_ORDERS market.live

-- there is a live order with the number; it is another account's
abbrev pub is_order : BookState → ℕ → Bool
is_order book number = is_some (order_of book number)

abbrev pub is_of_another : BookState → ℕ → ℕ → Bool
is_of_another book account number =
    option_map_or (λ (order : Order). not (nat_eq account order.account)) (order_of book number) false

-- ---- the refusals
-- of a market that is to be listed
abbrev pub market_refusals : BookState → ℕ → List (Bool × BookRefusal)
market_refusals book market =
    (is_market book market, MarketExists)
    ∷ (nat_le MAX_MARKETS (length book.markets), TooMany)
    ∷ []

-- of an order that is to be placed, by its market
abbrev pub order_refusals : BookState → NewOrder → List (Bool × BookRefusal)
order_refusals book order =
    (not (is_market book order.market), NoMarket)
    ∷ (is_settled book order.market, Settled)
    ∷ (market_has book order.market (λ found. not (has_form_for found order)), WeightCount)
    ∷ []

-- and for want of room
abbrev pub room_refusals : BookState → ℕ → List (Bool × BookRefusal)
room_refusals book market =
    (market_has book market is_full, BookFull)
    ∷ (nat_le MAX_ORDER book.accepted, TooMany)
    ∷ []

abbrev pub place_refusals : BookState → NewOrder → List (Bool × BookRefusal)
place_refusals book order = order_refusals book order ++ room_refusals book order.market

-- of a market that is to be settled at this number of prices
abbrev pub close_refusals : BookState → ℕ → ℕ → List (Bool × BookRefusal)
close_refusals book market prices =
    (not (is_market book market), NoMarket)
    ∷ (is_settled book market, Settled)
    ∷ (market_has book market (λ found. not (nat_eq prices found.underlyings)), WeightCount)
    ∷ []

-- of a live order that an account cancels
abbrev pub cancel_refusals : BookState → ℕ → ℕ → List (Bool × BookRefusal)
cancel_refusals book account number =
    (not (is_order book number), NoOrder)
    ∷ (is_of_another book account number, NotOwner)
    ∷ []

-- of the live orders of a market
abbrev pub live_refusals : BookState → ℕ → List (Bool × BookRefusal)
live_refusals book market =
    (not (is_market book market), NoMarket)
    ∷ (is_settled book market, Settled)
    ∷ []

-- of a batch of a market
abbrev pub batch_refusals : BookState → ℕ → List (Bool × BookRefusal)
batch_refusals book market =
    (not (is_market book market), NoMarket)
    ∷ (is_settled book market, Settled)
    ∷ (nat_le MAX_BATCHES book.finished, TooMany)
    ∷ []
