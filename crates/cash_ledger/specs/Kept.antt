-- What a ledger keeps beside the lists that a contract sees.
use Rattle.std.specs.Prelude.{ℕ, ℤ, pos, ◌≡◌, ◌+◌, ◌≤◌, List, map, Option, Some, None}
use Rattle.cash_ledger.specs.declared.holding.Holding.{Holding}
use Rattle.cash_ledger.specs.declared.entry.Entry.{Entry}
use Rattle.limits.specs.declared.TheConstants.{MAX_RESERVE, MAX_RESERVED}
use Rattle.cash_ledger.specs.Entries.{balance_of, AreBounded}

-- of an account without entries
abbrev pub no_holding : Holding
no_holding = record { total = pos 0; reserved = 0 }

-- the total that is kept of an account, and 0 where it is not open
abbrev pub total_or_zero : Option Holding → ℤ
total_or_zero None = pos 0
total_or_zero (Some holding) = holding.total

-- the amount that is kept as reserved, and 0 where it is not open
abbrev pub reserve_or_zero : Option Holding → ℕ
reserve_or_zero None = 0
reserve_or_zero (Some holding) = holding.reserved

-- each open account with the amount that is kept as reserved
abbrev pub reserves_in : List (ℕ × Holding) → List (ℕ × ℕ)
reserves_in accounts = map (λ e. (e.0, e.1.reserved)) accounts

-- the totals kept of the open accounts are their balances
pub record AreKept (holding_of : ℕ → Option Holding) (entries : List Entry) : Type 0 where
  -- so the entries of an account that is not open sum to 0
  pub each : (account : ℕ) → total_or_zero (holding_of account) ≡ balance_of account entries
  pub reserves : (account : ℕ) → reserve_or_zero (holding_of account) ≤ MAX_RESERVED + MAX_RESERVE
  pub bounded : AreBounded entries
