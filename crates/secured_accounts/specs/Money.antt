-- Where the money of an exchange comes from: all balances, the house's too, sum to what was
-- deposited less what was withdrawn.
use Rattle.std.specs.Prelude.{ℕ, ℤ, pos, ◌≡◌, true, List, [], nat_eq}
use Rattle.std.specs.List.{All, IsDistinct}
use Rattle.arithmetic.specs.Sums.{total}
use Rattle.cash_ledger.specs.declared.entry.Cause.{Cause}
use Rattle.cash_ledger.specs.declared.entry.Cause.TheVariants.{Deposit, Payoff, Premium, Withdraw}
use Rattle.cash_ledger.specs.declared.entry.Entry.{Entry}
use Rattle.cash_ledger.specs.Entries.{balance_of}
use Rattle.cash_ledger.specs.Ledger.{is_open}
use Rattle.exchange_core.specs.ExchangeState.{ExchangeState, empty_exchange}
use Rattle.exchange_core.specs.Kept.{IsKept}
use Rattle.secured_accounts.specs.Laws.{AreComing, Event, Guarded, MayCome, after_event, after_events, guarded}

-- the amount, where it is deposited or withdrawn; premiums and payoffs move within the exchange
abbrev pub if_from_outside : Cause → ℤ → ℤ
if_from_outside Deposit amount = amount
if_from_outside Withdraw amount = amount
if_from_outside (Premium batch) amount = pos 0
if_from_outside (Payoff batch) amount = pos 0

-- what was deposited less what was withdrawn
abbrev pub brought_in : List Entry → ℤ
brought_in entries = total (λ entry. if_from_outside entry.cause entry.amount) entries

-- all balances, the house's too, sum to that
abbrev pub AddUp : ExchangeState → Type 0
AddUp state = total (λ account. balance_of account state.entries) state.accounts ≡ brought_in state.entries

-- each entry is of an open account, and what moved within the exchange sums to 0
pub record AreAccountedFor (opened : List ℕ) (entries : List Entry) : Type 0 where
  pub accounts : All (λ (entry : Entry). is_open opened entry.account ≡ true) entries
  pub sum : total (λ (entry : Entry). entry.amount) entries ≡ brought_in entries

-- each account is open once, and the entries are accounted for
pub record IsAccountedFor (state : ExchangeState) : Type 0 where
  pub distinct : IsDistinct nat_eq state.accounts
  pub entries : AreAccountedFor state.accounts state.entries

-- ---- the promises
-- so it is before the first command, and each thing that may come keeps it: a command, a clear with
-- whatever fills, an account to be secured
pub record MoneyIsKept : Type 0 where
  pub first : IsAccountedFor empty_exchange
  pub keeps : (state : Guarded) (event : Event) → IsKept state.exchange → MayCome state event → IsAccountedFor state.exchange → IsAccountedFor (after_event state event).exchange
  -- the balances of the open accounts have then all that is there
  pub sums : (state : ExchangeState) → IsAccountedFor state → AddUp state

-- from the first command on they add up, whatever comes
abbrev pub BalancesAddUp : Type 0
BalancesAddUp = (events : List Event) → AreComing (guarded empty_exchange []) events → AddUp (after_events (guarded empty_exchange []) events).exchange
