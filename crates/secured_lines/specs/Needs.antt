-- What lines are told to be needed is at least what truly is.
use Rattle.std.specs.Prelude.{ℕ, ◌≡◌, ◌≤◌, List, Some, Ok}
use Rattle.std.specs.List.{sum}
use Rattle.account_need.specs.Account.{Need as WhatIsNeeded, portfolios}
use Rattle.account_need.specs.Laws.{AreTrueNeeds}
use Rattle.command_text.specs.declared.command.Command.{Command as OneCommand}
use Rattle.command_text.specs.declared.requests.Request.TheVariants.{Command}
use Rattle.command_text.specs.declared.words.TheConstants.{SERVED}
use Rattle.command_text.specs.Said.{said_in}
use Rattle.exchange_core.specs.ExchangeState.{ExchangeState}
use Rattle.exchange_core.specs.Step.{effect}
use Rattle.secured_accounts.specs.Secured.{account_of, need_in, risked_by}
use Rattle.secured_lines.specs.Output.{kept_from}
use Rattle.secured_lines.specs.SecuredState.{SecuredState, exchange_in}

-- what the account is told to need, where it is an amount, is at least its true needs of all markets
abbrev pub IsAboveTrue : ExchangeState → ℕ → WhatIsNeeded → Type 0
IsAboveTrue exchange account need =
    (amount : ℕ) (needs : List ℕ) → need ≡ Ok amount → AreTrueNeeds (portfolios (account_of exchange account)) needs → sum needs ≤ amount

pub record NeedsAreEnough (state : SecuredState) : Type 0 where
  -- so it is of what a line asks that an account needs, or that secures it
  pub told : (account : ℕ) → IsAboveTrue (exchange_in state) account (need_in (exchange_in state) account)
  -- and of what it would need once a command were carried out that is kept from the exchange
  pub kept : (line : List ℕ) (command : OneCommand) (account : ℕ) (need : WhatIsNeeded) → said_in SERVED line ≡ Ok (Command command)
      → risked_by command ≡ Some account → kept_from state command ≡ Some need → IsAboveTrue (effect (exchange_in state) command).1 account need
