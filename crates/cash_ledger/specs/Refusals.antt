-- The refusals of each call, each with its condition, in the order in which they are tried.
use Rattle.std.specs.Prelude.{ℕ, ℤ, pos, List, [], ◌∷◌, ◌++◌, Bool, not, int_lt, nat_lt, length, Option, Some, None}
use Rattle.cash_ledger.specs.declared.ledger.LedgerRefusal.{LedgerRefusal}
use Rattle.cash_ledger.specs.declared.ledger.LedgerRefusal.TheVariants.{NoAccount, AccountExists, Funds, TooMany, Memory}
use Rattle.limits.specs.declared.TheConstants.{MAX_ACCOUNTS}
use Rattle.cash_ledger.specs.Ledger.{LedgerState, is_open, free_of}

-- the refusal; want of memory is none
abbrev pub unless_memory : LedgerRefusal → Option LedgerRefusal
unless_memory Memory = None
unless_memory refusal = Some refusal

-- of an account that is to be opened; the house is open, and counts for none
abbrev pub open_refusals : List ℕ → ℕ → List (Bool × LedgerRefusal)
open_refusals accounts account =
    (is_open accounts account, AccountExists)
    ∷ (nat_lt MAX_ACCOUNTS (length accounts), TooMany)
    ∷ []

-- of a call on an account
abbrev pub account_refusals : List ℕ → ℕ → List (Bool × LedgerRefusal)
account_refusals accounts account = (not (is_open accounts account), NoAccount) ∷ []

-- of an amount that an account is to pay, where this much of its balance is free
abbrev pub payment_refusals : List ℕ → ℕ → ℤ → ℕ → List (Bool × LedgerRefusal)
payment_refusals accounts account free amount = account_refusals accounts account ++ (int_lt free (pos amount), Funds) ∷ []

-- of an amount that is to be paid from the ledger or to be reserved
abbrev pub funds_refusals : LedgerState → ℕ → ℕ → List (Bool × LedgerRefusal)
funds_refusals ledger account amount = payment_refusals ledger.accounts account (free_of ledger account) amount
