use Rattle.std.proofs.Common.{◌≡◌, ◌+◌, ℕ, drop}
use Rattle.cash_ledger.specs.Ledger.{reserved_of}
use Rattle.order_book.specs.Book.{live_of}
use Rattle.exchange_core.specs.Reserves.{reserve_of}
use Rattle.exchange_core.proofs.settle.release_live.Given as goal

abbrev pub invariant-loop-place : goal.invariant-loop-place
invariant-loop-place l = record {
  reserves : (q : ℕ) → reserved_of l.ledger q + reserve_of q (live_of l.book l.market) ≡ reserved_of l.fn.ledger q + reserve_of q (drop l.place (live_of l.book l.market));
  accounts : l.ledger.accounts ≡ l.fn.ledger.accounts;
  entries : l.ledger.entries ≡ l.fn.ledger.entries;
}
