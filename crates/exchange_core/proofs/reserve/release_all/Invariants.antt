use Rattle.std.proofs.Common.{◌≡◌, ◌+◌, ℕ, drop}
use Rattle.cash_ledger.specs.Ledger.{reserved_of}
use Rattle.exchange_core.specs.Reserves.{reserve_of}
use Rattle.exchange_core.proofs.reserve.release_all.Given as goal

abbrev pub invariant-loop-order : goal.invariant-loop-order
invariant-loop-order l = record {
  reserves : (q : ℕ) → reserved_of l.ledger q + reserve_of q l.orders ≡ reserved_of l.fn.ledger q + reserve_of q (drop l.order-index l.orders);
  accounts : l.ledger.accounts ≡ l.fn.ledger.accounts;
  entries : l.ledger.entries ≡ l.fn.ledger.entries;
}
