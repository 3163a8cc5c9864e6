-- What of an account's balance is reserved for its live buys.
use Rattle.std.specs.Prelude.{ℕ, ℤ, pos, ◌≡◌, ◌+◌, ◌*◌, ◌-ℤ◌, List, [], ◌∷◌, nat_eq, if◌then◌else◌}
use Rattle.cash_ledger.specs.Entries.{balance_of}
use Rattle.cash_ledger.specs.Ledger.{LedgerState, reserved_of}
use Rattle.form.specs.declared.orders.Order.{Order}
use Rattle.form.specs.declared.orders.Side.{Side}
use Rattle.clearing_model.specs.Clearing.{if_buy}
use Rattle.order_book.specs.declared.new_order.NewOrder.{NewOrder}
use Rattle.exchange_core.specs.ExchangeState.{ExchangeState, all_live}

-- what an order reserves: a buy its quantity times its price, and a sell nothing
abbrev pub reserve_for : Side → ℕ → ℕ → ℕ
reserve_for side quantity price = if_buy side (quantity * price)

-- what a new order is to reserve
abbrev pub cost_of_new : NewOrder → ℕ
cost_of_new order = reserve_for order.side order.quantity order.price

-- what a live order reserves
abbrev pub cost_of : Order → ℕ
cost_of order = reserve_for order.side order.quantity order.price

-- an amount where it is of the account, and else 0
abbrev pub own_amount : ℕ → ℕ → ℕ → ℕ
own_amount account owner amount = if nat_eq account owner then amount else 0

-- what an order reserves of an account
abbrev pub reserve_by : ℕ → Order → ℕ
reserve_by account order = own_amount account order.account (cost_of order)

-- the reserve of an account: the sum over these orders
abbrev pub reserve_of : ℕ → List Order → ℕ
reserve_of account [] = 0
reserve_of account (order ∷ orders) = reserve_by account order + reserve_of account orders

-- the reserve of an account: the sum over its live buys of quantity times price
abbrev pub reserve_in : ExchangeState → ℕ → ℕ
reserve_in state account = reserve_of account (all_live state)

-- what an account may still pay: its balance less its reserve
abbrev pub free_in : ExchangeState → ℕ → ℤ
free_in state account = balance_of account state.entries -ℤ pos (reserve_in state account)

-- ---- what a ledger reserves, as orders come and go
-- an amount more is reserved of one account
abbrev pub AddsReserve : LedgerState → LedgerState → ℕ → ℕ → Type 0
AddsReserve old new account amount = (q : ℕ) → reserved_of new q ≡ reserved_of old q + own_amount q account amount

-- what one order reserved is free again
abbrev pub FreesReserve : LedgerState → LedgerState → Order → Type 0
FreesReserve old new order = (q : ℕ) → reserved_of new q + reserve_by q order ≡ reserved_of old q

-- what these orders reserved is free again
abbrev pub FreesReserves : LedgerState → LedgerState → List Order → Type 0
FreesReserves old new orders = (q : ℕ) → reserved_of new q + reserve_of q orders ≡ reserved_of old q
