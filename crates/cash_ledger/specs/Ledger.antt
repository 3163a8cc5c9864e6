-- What a contract sees of a ledger: plain lists, in the order in which things came, and the room
-- for more entries.
use Rattle.std.specs.Prelude.{ℕ, ℤ, pos, ◌≡◌, ◌-ℤ◌, List, Bool, nat_eq, Option, Some, None, unwrap_or, if◌then◌else◌}
use Rattle.std.specs.List.{list_any}
use Rattle.std.specs.Map.{lookup}
use Rattle.cash_ledger.specs.declared.entry.Entry.{Entry}
use Rattle.cash_ledger.specs.Entries.{balance_of}

pub record LedgerState : Type 0 where
  -- the open accounts: first account 0, the house, which is always open
  pub accounts : List ℕ
  pub entries : List Entry
  -- each open account with the amount that is reserved of its balance
  pub reserves : List (ℕ × ℕ)
  -- how many entries may come without more memory
  pub spare : ℕ

abbrev pub is_open : List ℕ → ℕ → Bool
is_open accounts account = list_any (nat_eq account) accounts

-- an amount of an account, where it is open
abbrev pub if_open : List ℕ → ℕ → ℤ → Option ℤ
if_open accounts account amount = if is_open accounts account then Some amount else None

-- the balance of an account that is open
abbrev pub balance_in : List ℕ → List Entry → ℕ → Option ℤ
balance_in accounts entries account = if_open accounts account (balance_of account entries)

-- what is reserved of an account, and 0 where it is not open
abbrev pub reserved_of : LedgerState → ℕ → ℕ
reserved_of ledger account = unwrap_or (lookup (nat_eq account) ledger.reserves) 0

-- the balance less what is reserved
abbrev pub free_of : LedgerState → ℕ → ℤ
free_of ledger account = balance_of account ledger.entries -ℤ pos (reserved_of ledger account)

-- of each account as much is reserved as before
abbrev pub KeepsReserves : LedgerState → LedgerState → Type 0
KeepsReserves old new = (q : ℕ) → reserved_of new q ≡ reserved_of old q

-- of one account this much is reserved, and of each other as much as before
abbrev pub SetsReserve : LedgerState → LedgerState → ℕ → ℕ → Type 0
SetsReserve old new account amount =
    (q : ℕ) → reserved_of new q ≡ (if nat_eq account q then amount else reserved_of old q)
