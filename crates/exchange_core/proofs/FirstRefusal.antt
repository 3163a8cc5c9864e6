-- The refusals of ledger and book by their names in the exchange.
use Rattle.std.proofs.Common.{◌≡◌, ℕ, ℤ, pos, ◌*◌, ◌-ℤ◌, List, ◌++◌, Bool, true, false, not, int_lt, if◌then◌else◌, None, Some, inl, inr, refl, ap, ◌∙◌}
use Rattle.cash_ledger.specs.declared.ledger.LedgerRefusal.{LedgerRefusal}
use Rattle.cash_ledger.specs.declared.ledger.LedgerRefusal.TheVariants as from_ledger
use Rattle.cash_ledger.specs.Entries.{balance_of}
use Rattle.cash_ledger.specs.Ledger.{LedgerState, is_open, free_of}
use Rattle.cash_ledger.specs.Refusals as ledger_refusals
use Rattle.form.specs.declared.orders.Side.{Side}
use Rattle.form.specs.declared.orders.Side.TheVariants.{Buy, Sell}
use Rattle.order_book.specs.declared.new_order.NewOrder.{NewOrder}
use Rattle.order_book.specs.declared.refusal.BookRefusal.{BookRefusal}
use Rattle.order_book.specs.declared.refusal.BookRefusal.TheVariants as from_book
use Rattle.order_book.specs.Book.{BookState}
use Rattle.order_book.specs.Refusals as book_refusals
use Rattle.lists.specs.Refusals.{first_of}
use Rattle.lists.proofs.FirstRefusal.{IsAlike, first_behind, none_in_both, none_unnamed}
use Rattle.exchange_core.specs.declared.refusal.Refusal.TheVariants.{NoAccount, AccountExists, NoMarket, MarketExists, Settled, WeightCount, Funds, BookFull, NoOrder, NotOwner, TooMany}
use Rattle.exchange_core.specs.ExchangeState.{ExchangeState, without_positions}
use Rattle.exchange_core.specs.Failures.{ledger_failure, book_failure, unless_memory}
use Rattle.exchange_core.specs.declared.failure.Failure.TheVariants as failure
use Rattle.exchange_core.specs.Kept.{AreJoined}
use Rattle.exchange_core.specs.Refusals.{ledger_name, book_name, by_ledger, by_book, cost_refusals, order_cost_refusals, by_account, place_refusals}
use Rattle.exchange_core.specs.Reserves.{free_in}

-- ---- each refusal has a name, and want of memory has none
pub ledger_alike : (error : LedgerRefusal) → IsAlike ledger_refusals.unless_memory from_ledger.Memory unless_memory ledger_failure error
ledger_alike from_ledger.NoAccount = record { alike = inr (refl, NoAccount, refl) }
ledger_alike from_ledger.AccountExists = record { alike = inr (refl, AccountExists, refl) }
ledger_alike from_ledger.Funds = record { alike = inr (refl, Funds, refl) }
ledger_alike from_ledger.TooMany = record { alike = inr (refl, TooMany, refl) }
ledger_alike from_ledger.Memory = record { alike = inl (refl, refl, refl) }

pub book_alike : (error : BookRefusal) → IsAlike book_refusals.unless_memory from_book.Memory unless_memory book_failure error
book_alike from_book.NoMarket = record { alike = inr (refl, NoMarket, refl) }
book_alike from_book.MarketExists = record { alike = inr (refl, MarketExists, refl) }
book_alike from_book.Settled = record { alike = inr (refl, Settled, refl) }
book_alike from_book.WeightCount = record { alike = inr (refl, WeightCount, refl) }
book_alike from_book.BookFull = record { alike = inr (refl, BookFull, refl) }
book_alike from_book.NoOrder = record { alike = inr (refl, NoOrder, refl) }
book_alike from_book.NotOwner = record { alike = inr (refl, NotOwner, refl) }
book_alike from_book.TooMany = record { alike = inr (refl, TooMany, refl) }
book_alike from_book.Memory = record { alike = inl (refl, refl, refl) }

-- ---- want of memory above is want of memory below

-- and where the book refuses nothing, no more than that is left
pub only_memory : (error : BookRefusal) → book_refusals.unless_memory error ≡ None → book_failure error ≡ failure.Memory
only_memory from_book.NoMarket none = cc
only_memory from_book.MarketExists none = cc
only_memory from_book.Settled none = cc
only_memory from_book.WeightCount none = cc
only_memory from_book.BookFull none = cc
only_memory from_book.NoOrder none = cc
only_memory from_book.NotOwner none = cc
only_memory from_book.TooMany none = cc
only_memory from_book.Memory none = refl

-- ---- what is free of a balance, by ledger and exchange
module _ (ledger : LedgerState) (book : BookState) (joined : AreJoined ledger book) where
  pub free-joined : (account : ℕ) → free_of ledger account ≡ free_in (without_positions ledger book) account
  free-joined account = ap (λ n. balance_of account ledger.entries -ℤ pos n) (joined.reserves account)

  pub cost-joined : (order : NewOrder) → order_cost_refusals ledger order ≡ by_account (without_positions ledger book) order
  cost-joined order = ap (λ free. cost_refusals order.side ledger.accounts order.account free (order.quantity * order.price)) (free-joined order.account)

-- ---- where nothing is refused
-- the account of an order is open
pub cost_open : (side : Side) (accounts : List ℕ) (account : ℕ) (free : ℤ) (cost : ℕ) → first_of (cost_refusals side accounts account free cost) ≡ None → is_open accounts account ≡ true
cost_open Buy accounts account free cost none =
    let Goal : Bool → Type 0 = λ b. (if not b then Some from_ledger.NoAccount else if int_lt free (pos cost) then Some from_ledger.Funds else None) ≡ None → b ≡ true in
    (elim (is_open accounts account) as Goal [ true ↦ λ h. refl | false ↦ λ h. cc ]) none
cost_open Sell accounts account free cost none =
    let Goal : Bool → Type 0 = λ b. (if not b then Some from_ledger.NoAccount else None) ≡ None → b ≡ true in
    (elim (is_open accounts account) as Goal [ true ↦ λ h. refl | false ↦ λ h. cc ]) none

pub cost_unnamed : (side : Side) (accounts : List ℕ) (account : ℕ) (free : ℤ) (cost : ℕ) → first_of (by_ledger (cost_refusals side accounts account free cost)) ≡ None → first_of (cost_refusals side accounts account free cost) ≡ None
cost_unnamed Buy accounts account free cost none = none_unnamed ledger_name (cost_refusals Buy accounts account free cost) (refl, (refl, tt)) none
cost_unnamed Sell accounts account free cost none = none_unnamed ledger_name (cost_refusals Sell accounts account free cost) (refl, tt) none

-- the book lists the market, places the order, finishes a batch of the market
pub market_none : (book : BookState) (market : ℕ) → first_of (by_book (book_refusals.market_refusals book market)) ≡ None → first_of (book_refusals.market_refusals book market) ≡ None
market_none book market none = none_unnamed book_name (book_refusals.market_refusals book market) (refl, (refl, tt)) none

pub place_none : (state : ExchangeState) (order : NewOrder) → first_of (place_refusals state order) ≡ None
    → (first_of (book_refusals.place_refusals state.book order) ≡ None) × (is_open state.accounts order.account ≡ true)
place_none state order none =
    let market = book_refusals.order_refusals state.book order in
    let room = book_refusals.room_refusals state.book order.market in
    let parts = none_in_both (by_book market) (by_ledger (by_account state order) ++ by_book room) none in
    let others = none_in_both (by_ledger (by_account state order)) (by_book room) parts.1 in (
      first_behind market room (none_unnamed book_name market (refl, (refl, (refl, tt))) parts.0) ∙ none_unnamed book_name room (refl, (refl, tt)) others.1,
      cost_open order.side state.accounts order.account (free_in state order.account) (order.quantity * order.price) (cost_unnamed order.side state.accounts order.account (free_in state order.account) (order.quantity * order.price) others.0),
    )

pub close_none : (book : BookState) (market prices : ℕ) → first_of (by_book (book_refusals.close_refusals book market prices)) ≡ None → first_of (book_refusals.close_refusals book market prices) ≡ None
close_none book market prices none = none_unnamed book_name (book_refusals.close_refusals book market prices) (refl, (refl, (refl, tt))) none

pub batch_none : (book : BookState) (market : ℕ) → first_of (by_book (book_refusals.batch_refusals book market)) ≡ None → first_of (book_refusals.batch_refusals book market) ≡ None
batch_none book market none = none_unnamed book_name (book_refusals.batch_refusals book market) (refl, (refl, (refl, tt))) none

pub live_none : (book : BookState) (market : ℕ) → first_of (by_book (book_refusals.live_refusals book market)) ≡ None → first_of (book_refusals.live_refusals book market) ≡ None
live_none book market none = none_unnamed book_name (book_refusals.live_refusals book market) (refl, (refl, tt)) none
