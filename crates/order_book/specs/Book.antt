-- What a contract sees of a book, and how each call changes it.
use Rattle.std.specs.Prelude.{ℕ, ◌+◌, Bool, false, not, List, [], ◌∷◌, ◌++◌, Option, nat_eq, length}
use Rattle.std.specs.List.{find}
use Rattle.std.specs.Map.{lookup}
use Rattle.std.specs.Option.{option_map, option_map_or}
use Rattle.form.specs.declared.orders.Order.{Order}
use Rattle.form.specs.declared.orders.Batch.{Batch}
use Rattle.order_book.specs.declared.market.MarketInfo.{MarketInfo}
use Rattle.order_book.specs.declared.new_order.NewOrder.{NewOrder}
use Rattle.order_book.specs.Markets.{MarketState, Markets, settled_market, has_number, changed_in, live_in, live_orders, with_live_in, without_in_each}

pub record BookState : Type 0 where
  pub markets : Markets
  -- how many orders were accepted
  pub accepted : ℕ
  -- how many batches were finished
  pub finished : ℕ

abbrev pub book_of : Markets → ℕ → ℕ → BookState
book_of markets accepted finished = record { markets = markets; accepted = accepted; finished = finished }

abbrev pub empty_book : BookState
empty_book = book_of [] 0 0

abbrev pub market_of : BookState → ℕ → Option MarketState
market_of book market = lookup (nat_eq market) book.markets

-- the live orders of a market, in rising number
abbrev pub live_of : BookState → ℕ → List Order
live_of book market = live_in market book.markets

-- the live order with the number, in whatever market it is
abbrev pub order_of : BookState → ℕ → Option Order
order_of book number = find (has_number number) (live_orders book.markets)

abbrev pub info_of : MarketState → MarketInfo
info_of market = record { underlyings = market.underlyings; settled = market.settled; live = length market.live }

-- what is told of a market that is there
abbrev pub info_in : BookState → ℕ → Option MarketInfo
info_in book market = option_map info_of (market_of book market)

-- what is true of a market that is there
abbrev pub market_has : BookState → ℕ → (MarketInfo → Bool) → Bool
market_has book market holds = option_map_or holds (info_in book market) false

-- the market is there and not settled
abbrev pub is_trading : BookState → ℕ → Bool
is_trading book market = market_has book market (λ found. not found.settled)

-- the live orders of a market as a batch
abbrev pub batch_of : MarketState → Batch
batch_of market = record { underlyings = market.underlyings; orders = market.live }

-- the book with one market more, without live orders
abbrev pub with_market : BookState → ℕ → ℕ → BookState
with_market book market underlyings =
    record book { markets = book.markets ++ (market, record { underlyings = underlyings; settled = false; live = [] }) ∷ [] }

-- the order with its number
abbrev pub with_number : ℕ → NewOrder → Order
with_number number order = record {
  id = number;
  account = order.account;
  side = order.side;
  bundle = order.bundle;
  price = order.price;
  quantity = order.quantity;
}

-- the book with the order last among the live orders of its market, under the next number
abbrev pub with_order : BookState → NewOrder → BookState
with_order book order =
    let number = book.accepted + 1 in
    record book {
      markets = with_live_in order.market (live_of book order.market ++ with_number number order ∷ []) book.markets;
      accepted = number;
    }

-- the book without the live order with the number
abbrev pub without_order : BookState → ℕ → BookState
without_order book number = record book { markets = without_in_each number book.markets }

-- the book with a batch of the market finished: it has no live orders left
abbrev pub after_batch : BookState → ℕ → BookState
after_batch book market = record book { markets = with_live_in market [] book.markets; finished = book.finished + 1 }

-- the book with the market settled: its live orders have lapsed
abbrev pub after_close : BookState → ℕ → BookState
after_close book market = record book { markets = changed_in settled_market market book.markets }
