-- The plain ledger: a list of entries in the order in which they came. A balance is the sum of the
-- account's entries.
use Rattle.std.specs.Prelude.{ℕ, ℤ, pos, neg_ℤ, ◌+ℤ◌, ◌≤ℤ◌, List, [], ◌∷◌, nat_eq, if◌then◌else◌}
use Rattle.cash_ledger.specs.declared.entry.Cause.{Cause}
use Rattle.cash_ledger.specs.declared.entry.Cause.TheVariants.{Deposit, Withdraw}
use Rattle.cash_ledger.specs.declared.entry.Entry.{Entry}
use Rattle.limits.specs.declared.TheConstants.{MAX_GAIN}

-- what an entry adds to an account
abbrev pub amount_for : ℕ → Entry → ℤ
amount_for account entry = if nat_eq account entry.account then entry.amount else pos 0

-- the sum of an account's entries
abbrev pub balance_of : ℕ → List Entry → ℤ
balance_of account [] = pos 0
balance_of account (entry ∷ entries) = amount_for account entry +ℤ balance_of account entries

-- the amount is at most the limit in size
abbrev pub IsBounded : Entry → Type 0
IsBounded entry = (neg_ℤ (pos MAX_GAIN) ≤ℤ entry.amount) × (entry.amount ≤ℤ pos MAX_GAIN)

-- each amount is
abbrev pub AreBounded : List Entry → Type 0
AreBounded [] = Unit {0}
AreBounded (entry ∷ entries) = IsBounded entry × AreBounded entries

-- ---- the entries that calls add
abbrev pub deposit_of : ℕ → ℕ → Entry
deposit_of account amount = record { account = account; amount = pos amount; cause = Deposit }

abbrev pub withdrawal_of : ℕ → ℕ → Entry
withdrawal_of account amount = record { account = account; amount = neg_ℤ (pos amount); cause = Withdraw }

-- of an amount that moves from one account to another
abbrev pub transfer_of : ℕ → ℕ → ℕ → Cause → List Entry
transfer_of from to amount cause =
    record { account = from; amount = neg_ℤ (pos amount); cause = cause } ∷ record { account = to; amount = pos amount; cause = cause } ∷ []
