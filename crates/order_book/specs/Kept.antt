-- What holds of each book between two calls.
use Rattle.std.specs.Prelude.{ℕ, ◌+◌, ◌≤◌, ◌≡◌, true, [], length, nat_eq}
use Rattle.std.specs.List.{All, IsDistinct}
use Rattle.std.specs.List.Sorted.{IsStrictlyIncreasing}
use Rattle.std.specs.Map.{keys_of}
use Rattle.form.specs.declared.limits.TheConstants.{MAX_ORDERS, MAX_UNDERLYINGS, MAX_ORDER}
use Rattle.form.specs.declared.orders.Order.{Order}
use Rattle.form.specs.Bundles.{IsOnCount}
use Rattle.form.specs.Limits.{IsOrderWithin}
use Rattle.limits.specs.declared.TheConstants.{MAX_MARKETS, MAX_BATCHES}
use Rattle.order_book.specs.Markets.{MarketState, live_orders}
use Rattle.order_book.specs.Numbers.{numbers_of, AreNumberedApart}
use Rattle.order_book.specs.Book.{BookState}

-- a live order of a market on this number of underlyings, where so many orders were accepted
pub record IsLive (underlyings accepted : ℕ) (order : Order) : Type 0 where
  pub within : IsOrderWithin order
  pub forms : IsOnCount (underlyings + 1) order.bundle
  pub some : 1 ≤ order.id
  pub number : order.id ≤ accepted

-- a market, where so many orders were accepted
pub record IsMarketKept (accepted : ℕ) (market : MarketState) : Type 0 where
  pub some : 1 ≤ market.underlyings
  pub few : market.underlyings ≤ MAX_UNDERLYINGS
  pub room : length market.live ≤ MAX_ORDERS
  pub rise : IsStrictlyIncreasing (numbers_of market.live)
  pub live : All (IsLive market.underlyings accepted) market.live
  -- a settled market has no live orders
  pub settled : market.settled ≡ true → market.live ≡ []

-- a book between two calls
pub record IsBookKept (book : BookState) : Type 0 where
  pub few : length book.markets ≤ MAX_MARKETS
  pub distinct : IsDistinct nat_eq (keys_of book.markets)
  pub markets : All (λ (m : ℕ × MarketState). IsMarketKept book.accepted m.1) book.markets
  pub numbers : AreNumberedApart (live_orders book.markets)
  pub accepted : book.accepted ≤ MAX_ORDER
  pub finished : book.finished ≤ MAX_BATCHES
