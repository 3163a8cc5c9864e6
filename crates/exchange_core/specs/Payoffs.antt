-- What moves as a market is settled: the house pays the gains of positions, and is paid their
-- losses.
use Rattle.std.specs.Prelude.{ℕ, ◌++◌, List, [], ◌∷◌}
use Rattle.cash_ledger.specs.declared.entry.Entry.{Entry}
use Rattle.cash_ledger.specs.declared.entry.Cause.{Cause}
use Rattle.cash_ledger.specs.declared.entry.Cause.TheVariants.{Payoff}
use Rattle.cash_ledger.specs.Entries.{transfer_of}
use Rattle.form.specs.declared.orders.Side.{Side}
use Rattle.form.specs.declared.orders.Side.TheVariants.{Buy, Sell}
use Rattle.settlement.specs.declared.position.PaidOut.{PaidOut}

-- the house pays a buy, and is paid by a sell
abbrev pub payoff_transfer : Side → ℕ → ℕ → Cause → List Entry
payoff_transfer Buy account amount cause = transfer_of 0 account amount cause
payoff_transfer Sell account amount cause = transfer_of account 0 amount cause

-- the entries of one payout, even where it is 0
abbrev pub payoff_of : PaidOut → List Entry
payoff_of paid = payoff_transfer paid.side paid.account paid.amount (Payoff paid.batch)

-- the entries of payouts, in their order
abbrev pub payoff_entries : List PaidOut → List Entry
payoff_entries [] = []
payoff_entries (paid ∷ others) = payoff_of paid ++ payoff_entries others
