-- The refusals of each command, each with its condition, in the order in which they are tried:
-- those of ledger and book, by their names in the exchange.
use Rattle.std.specs.Prelude.{ℕ, ℤ, ◌*◌, Bool, List, ◌++◌, Option}
use Rattle.cash_ledger.specs.declared.ledger.LedgerRefusal.{LedgerRefusal}
use Rattle.cash_ledger.specs.Ledger.{LedgerState, free_of}
use Rattle.cash_ledger.specs.Refusals.{open_refusals, account_refusals, payment_refusals}
use Rattle.form.specs.declared.orders.Side.{Side}
use Rattle.form.specs.declared.orders.Side.TheVariants.{Buy, Sell}
use Rattle.order_book.specs.declared.new_order.NewOrder.{NewOrder}
use Rattle.order_book.specs.declared.refusal.BookRefusal.{BookRefusal}
use Rattle.order_book.specs.Refusals as book
use Rattle.lists.specs.Refusals.{first_of, by_name}
use Rattle.command_text.specs.declared.command.Command.{Command}
use Rattle.command_text.specs.declared.command.Command.TheVariants.{Open, Deposit, Withdraw, Market, Trade, Bundle, Cancel, Clear, Settle, Balance}
use Rattle.exchange_core.specs.declared.refusal.Refusal.{Refusal}
use Rattle.exchange_core.specs.ExchangeState.{ExchangeState}
use Rattle.exchange_core.specs.Failures.{ledger_failure, book_failure, unless_memory}
use Rattle.exchange_core.specs.Orders.{order_by, order_for}
use Rattle.exchange_core.specs.Reserves.{free_in}

-- ---- by their names in the exchange
abbrev pub ledger_name : LedgerRefusal → Option Refusal
ledger_name refusal = unless_memory (ledger_failure refusal)

abbrev pub book_name : BookRefusal → Option Refusal
book_name refusal = unless_memory (book_failure refusal)

abbrev pub by_ledger : List (Bool × LedgerRefusal) → List (Bool × Refusal)
by_ledger refusals = by_name ledger_name refusals

abbrev pub by_book : List (Bool × BookRefusal) → List (Bool × Refusal)
by_book refusals = by_name book_name refusals

-- ---- of the commands
-- of an order by its account: a buy is paid from what is free, and a sell costs nothing
abbrev pub cost_refusals : Side → List ℕ → ℕ → ℤ → ℕ → List (Bool × LedgerRefusal)
cost_refusals Buy accounts account free cost = payment_refusals accounts account free cost
cost_refusals Sell accounts account free cost = account_refusals accounts account

-- the same over a ledger
abbrev pub order_cost_refusals : LedgerState → NewOrder → List (Bool × LedgerRefusal)
order_cost_refusals ledger order =
    cost_refusals order.side ledger.accounts order.account (free_of ledger order.account) (order.quantity * order.price)

abbrev pub by_account : ExchangeState → NewOrder → List (Bool × LedgerRefusal)
by_account state order =
    cost_refusals order.side state.accounts order.account (free_in state order.account) (order.quantity * order.price)

-- of an order: by its market, then by its account, then for want of room
abbrev pub place_refusals : ExchangeState → NewOrder → List (Bool × Refusal)
place_refusals state order =
    by_book (book.order_refusals state.book order)
    ++ (by_ledger (by_account state order) ++ by_book (book.room_refusals state.book order.market))

abbrev pub refusals : ExchangeState → Command → List (Bool × Refusal)
refusals state (Open account) = by_ledger (open_refusals state.accounts account)
refusals state (Deposit account amount) = by_ledger (account_refusals state.accounts account)
refusals state (Withdraw account amount) = by_ledger (payment_refusals state.accounts account (free_in state account) amount)
refusals state (Market market underlyings) = by_book (book.market_refusals state.book market)
refusals state (Trade side account market kind strike price quantity count weights) =
    place_refusals state (order_by side account market kind strike price quantity count weights)
refusals state (Bundle side account market price quantity bundle) = place_refusals state (order_for side account market price quantity bundle)
refusals state (Cancel account order) =
    by_ledger (account_refusals state.accounts account) ++ by_book (book.cancel_refusals state.book account order)
refusals state (Clear market budget) = by_book (book.batch_refusals state.book market)
refusals state (Settle market count prices) = by_book (book.close_refusals state.book market count)
refusals state (Balance account) = by_ledger (account_refusals state.accounts account)

abbrev pub refusal_of : ExchangeState → Command → Option Refusal
refusal_of state command = first_of (refusals state command)
