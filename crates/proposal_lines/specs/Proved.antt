-- What is kept proves its bound, for as long as its orders may be the live ones.
use Rattle.std.specs.Prelude.{ℕ, ◌≡◌, ◌≤◌, List, Option, Some, IfSome}
use Rattle.std.specs.List.{All}
use Rattle.std.specs.Option.{option_map}
use Rattle.form.specs.declared.orders.Batch.{Batch}
use Rattle.form.specs.declared.orders.Order.{Order}
use Rattle.order_book.specs.Book.{BookState, market_of}
use Rattle.order_book.specs.Markets.{MarketState, live_orders}
use Rattle.order_book.specs.Numbers.{numbers_of}
use Rattle.proposals.specs.Laws.{IsProvedBest}
use Rattle.proposals.specs.declared.best.Best.{Best}
use Rattle.proposal_lines.specs.KeptByMarket.{KeptProposals}

-- an order with the number of one of these is that one
abbrev pub AgreesWith : List Order → Order → Type 0
AgreesWith orders order = All (λ (own : Order). order.id ≡ own.id → order ≡ own) orders

-- on how many underlyings a market is, if it is there
abbrev pub underlyings_in : BookState → ℕ → Option ℕ
underlyings_in book market = option_map (λ (m : MarketState). m.underlyings) (market_of book market)

-- the halves prove their bound for a batch of the market, whose orders have the numbers that are
-- kept. A live order with one of these numbers is that order: so where they are the live ones, the
-- market's batch is this one
pub record IsProvedIn (book : BookState) (market : ℕ) (best : Best) : Type 0 where
  pub batch : Batch
  pub proved : IsProvedBest batch best
  pub numbers : best.orders ≡ numbers_of batch.orders
  pub underlyings : underlyings_in book market ≡ Some batch.underlyings
  pub agree : All (AgreesWith batch.orders) (live_orders book.markets)
  pub accepted : All (λ (order : Order). order.id ≤ book.accepted) batch.orders

abbrev pub IsEntryProved : BookState → ℕ × Option Best → Type 0
IsEntryProved book entry = IfSome entry.1 (IsProvedIn book entry.0)

abbrev pub AreProvedIn : BookState → KeptProposals → Type 0
AreProvedIn book kept = All (IsEntryProved book) kept
