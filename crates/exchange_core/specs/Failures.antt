-- Why a command has no effect.
use Rattle.std.specs.Prelude.{Option, Some, None}
use Rattle.cash_ledger.specs.declared.ledger.LedgerRefusal.{LedgerRefusal}
use Rattle.cash_ledger.specs.declared.ledger.LedgerRefusal.TheVariants as ledger
use Rattle.order_book.specs.declared.refusal.BookRefusal.{BookRefusal}
use Rattle.order_book.specs.declared.refusal.BookRefusal.TheVariants as book
use Rattle.exchange_core.specs.declared.refusal.Refusal.{Refusal}
use Rattle.exchange_core.specs.declared.refusal.Refusal.TheVariants.{NoAccount, AccountExists, NoMarket, MarketExists, Settled, WeightCount, Funds, BookFull, NoOrder, NotOwner, TooMany}
use Rattle.exchange_core.specs.declared.failure.Failure.{Failure}
use Rattle.exchange_core.specs.declared.failure.Failure.TheVariants.{Refused, Memory}

-- a refusal of the ledger
abbrev pub ledger_failure : LedgerRefusal → Failure
ledger_failure ledger.NoAccount = Refused NoAccount
ledger_failure ledger.AccountExists = Refused AccountExists
ledger_failure ledger.Funds = Refused Funds
ledger_failure ledger.TooMany = Refused TooMany
ledger_failure ledger.Memory = Memory

-- a refusal of the book
abbrev pub book_failure : BookRefusal → Failure
book_failure book.NoMarket = Refused NoMarket
book_failure book.MarketExists = Refused MarketExists
book_failure book.Settled = Refused Settled
book_failure book.WeightCount = Refused WeightCount
book_failure book.BookFull = Refused BookFull
book_failure book.NoOrder = Refused NoOrder
book_failure book.NotOwner = Refused NotOwner
book_failure book.TooMany = Refused TooMany
book_failure book.Memory = Memory

-- the refusal; want of memory is none
abbrev pub unless_memory : Failure → Option Refusal
unless_memory Memory = None
unless_memory (Refused refusal) = Some refusal
