-- What is promised of secured accounts, whatever lines come.
use Rattle.std.specs.Prelude.{ℕ, ◌≡◌, ◌≤◌, true, List}
use Rattle.cash_ledger.specs.Ledger.{is_open}
use Rattle.exchange_lines.specs.LineSteps.{InputLine}
use Rattle.proposal_lines.specs.Answers.{state_by}
use Rattle.proposal_lines.specs.Laws.{IsSound}
use Rattle.secured_accounts.specs.Laws.{AllSecured, AreSafe, CanPay, Guarded, guarded}
use Rattle.secured_accounts.specs.Secured.{is_secured}
use Rattle.secured_lines.specs.Output.{secured_line}
use Rattle.secured_lines.specs.SecuredState.{SecuredState, empty_secured, exchange_in}

abbrev pub state_by_lines : SecuredState → List InputLine → SecuredState
state_by_lines = state_by secured_line

-- the exchange, and its secured accounts
abbrev pub guarded_in : SecuredState → Guarded
guarded_in state = guarded (exchange_in state) state.secured

-- a state whose secured accounts are safe
pub record IsGuarded (state : SecuredState) : Type 0 where
  pub sound : IsSound state.serving.proposing
  pub safe : AreSafe (guarded_in state)

abbrev pub Always : (SecuredState → SecuredState → Type 0) → Type 0
Always Holds = (state : SecuredState) (lines : List InputLine) → IsGuarded state → Holds state (state_by_lines state lines)

-- after any lines the balance of each secured account is at or above its true need
abbrev pub SecuredStaySafe : Type 0
SecuredStaySafe = Always (λ before after. AreSafe (guarded_in after))

-- an account that is secured stays secured
abbrev pub SecuredStaySecured : Type 0
SecuredStaySecured =
    (state : SecuredState) (lines : List InputLine) (account : ℕ) → is_secured state.secured account ≡ true
    → is_secured (state_by_lines state lines).secured account ≡ true

-- so its balance is not below 0 after any later line
abbrev pub SecuredCanPay : Type 0
SecuredCanPay = Always (λ before after. (account : ℕ) → is_secured before.secured account ≡ true → CanPay (guarded_in after) account)

-- where the open accounts of all traders are secured, the balance of none is
abbrev pub TradersCanPay : Type 0
TradersCanPay =
    Always (λ before after. AllSecured (guarded_in after) → (account : ℕ) → 1 ≤ account → is_open (exchange_in after).accounts account ≡ true → CanPay (guarded_in after) account)

-- ---- from nothing
-- so it is from the first line on
abbrev pub ServedStaySafe : Type 0
ServedStaySafe = (lines : List InputLine) → AreSafe (guarded_in (state_by_lines empty_secured lines))
