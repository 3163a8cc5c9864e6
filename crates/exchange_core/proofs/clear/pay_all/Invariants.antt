use Rattle.std.proofs.Common.{◌≡◌, ◌+◌, ◌*◌, ◌≤◌, ◌++◌, ℕ, length, drop}
use Rattle.cash_ledger.specs.Ledger.{reserved_of}
use Rattle.exchange_core.specs.Premiums.{premium_entries}
use Rattle.exchange_core.proofs.clear.pay_all.Given as goal

abbrev pub invariant-loop-place : goal.invariant-loop-place
invariant-loop-place l = record {
  entries : l.ledger.entries ++ premium_entries l.batch (drop l.place l.orders) (drop l.place l.fills) ≡ l.fn.ledger.entries ++ premium_entries l.batch l.orders l.fills;
  accounts : l.ledger.accounts ≡ l.fn.ledger.accounts;
  reserves : (q : ℕ) → reserved_of l.ledger q ≡ reserved_of l.fn.ledger q;
  spare : 2 * length l.orders ≤ l.ledger.spare + 2 * l.place;
}
