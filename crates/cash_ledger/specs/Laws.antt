-- Laws of the plain ledger.
use Rattle.std.specs.Prelude.{ℕ, ◌<◌, ◌^◌, List, length, FitsSigned}
use Rattle.std.specs.Int.{w128}
use Rattle.cash_ledger.specs.declared.entry.Entry.{Entry}
use Rattle.cash_ledger.specs.Entries.{balance_of, AreBounded}

-- fewer than 2^64 entries, each within the limit, have balances of 128 bits
abbrev pub BalancesFit : Type 0
BalancesFit = (account : ℕ) (entries : List Entry) → AreBounded entries → length entries < 2 ^ 64 → FitsSigned w128 (balance_of account entries)
