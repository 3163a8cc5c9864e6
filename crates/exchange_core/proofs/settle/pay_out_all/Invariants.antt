use Rattle.std.proofs.Common.{◌≡◌, ◌+◌, ◌*◌, ◌≤◌, ◌++◌, ℕ, length, drop}
use Rattle.cash_ledger.specs.Ledger.{reserved_of}
use Rattle.exchange_core.specs.Payoffs.{payoff_entries}
use Rattle.exchange_core.proofs.settle.pay_out_all.Given as goal

abbrev pub invariant-loop-paid : goal.invariant-loop-paid
invariant-loop-paid l = record {
  entries : l.ledger.entries ++ payoff_entries (drop l.paid-index l.payouts) ≡ l.fn.ledger.entries ++ payoff_entries l.payouts;
  accounts : l.ledger.accounts ≡ l.fn.ledger.accounts;
  reserves : (q : ℕ) → reserved_of l.ledger q ≡ reserved_of l.fn.ledger q;
  spare : 2 * length l.payouts ≤ l.ledger.spare + 2 * l.paid-index;
}
