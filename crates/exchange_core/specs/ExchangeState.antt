-- What a contract sees of an exchange: plain lists, in the order in which things came.
use Rattle.std.specs.Prelude.{ℕ, List, [], ◌∷◌}
use Rattle.cash_ledger.specs.declared.entry.Entry.{Entry}
use Rattle.cash_ledger.specs.Ledger.{LedgerState}
use Rattle.form.specs.declared.orders.Order.{Order}
use Rattle.order_book.specs.Markets.{live_orders}
use Rattle.order_book.specs.Book.{BookState, empty_book}
use Rattle.settlement.specs.declared.position.Position.{Position}

pub record ExchangeState : Type 0 where
  -- the open accounts: first account 0, the house, which is always open
  pub accounts : List ℕ
  -- the entries of the ledger
  pub entries : List Entry
  -- the markets with their live orders, and how many orders were accepted and batches finished
  pub book : BookState
  -- the positions in markets that are not settled, in the order in which they were added
  pub positions : List Position

abbrev pub empty_exchange : ExchangeState
empty_exchange = record { accounts = 0 ∷ []; entries = []; book = empty_book; positions = [] }

-- the live orders of all markets
abbrev pub all_live : ExchangeState → List Order
all_live state = live_orders state.book.markets

-- the state of an exchange over this ledger, this book and these positions
abbrev pub state_of : LedgerState → BookState → List Position → ExchangeState
state_of ledger book positions = record { accounts = ledger.accounts; entries = ledger.entries; book = book; positions = positions }

-- the same without positions, for what does not look at them
abbrev pub without_positions : LedgerState → BookState → ExchangeState
without_positions ledger book = state_of ledger book []
