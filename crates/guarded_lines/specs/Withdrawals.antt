-- Withdrawals that would leave an account less than its positions demand.
use Rattle.std.specs.Prelude.{ℕ, ℤ, pos, ◌≡◌, ◌-ℤ◌, int_le, Bool, true, false, ◌||◌, is_some, Option, Some, None, if◌then◌else◌}
use Rattle.command_text.specs.declared.command.Body.{Body}
use Rattle.command_text.specs.declared.command.Body.TheVariants as body
use Rattle.command_text.specs.declared.command.Command.{Command}
use Rattle.command_text.specs.declared.command.Command.TheVariants.{Withdraw}
use Rattle.exchange_core.specs.ExchangeState.{ExchangeState}
use Rattle.exchange_core.specs.Refusals.{refusal_of}
use Rattle.exchange_core.specs.Reserves.{free_in}
use Rattle.proposal_text.specs.declared.needs.Need.{Need}
use Rattle.proposal_text.specs.declared.needs.Need.TheVariants.{Amount}
use Rattle.guarded_lines.specs.Needs.{need_in}

-- so much is what is needed; a word is never covered
abbrev pub covers : Need → ℤ → Bool
covers (Amount amount) left = int_le (pos amount) left
covers word left = false

-- what a withdrawal leaves free: the balance less the reserve less the amount
abbrev pub left_in : ExchangeState → ℕ → ℕ → ℤ
left_in state account amount = free_in state account -ℤ pos amount

-- a run refuses it
abbrev pub is_refused : ExchangeState → ℕ → ℕ → Bool
is_refused state account amount = is_some (refusal_of state (Withdraw account amount))

-- the need that a withdrawal would leave uncovered; none of one that a run refuses
abbrev pub uncovered_withdrawal : ExchangeState → ℕ → ℕ → Option Need
uncovered_withdrawal state account amount =
    if is_refused state account amount || covers (need_in state account) (left_in state account amount) then None
    else Some (need_in state account)

abbrev pub uncovered_command : ExchangeState → Command → Option Need
uncovered_command state (Withdraw account amount) = uncovered_withdrawal state account amount
uncovered_command state command = None

abbrev pub uncovered_by : ExchangeState → Body → Option Need
uncovered_by state (body.Command command) = uncovered_command state command
uncovered_by state body.Syntax = None
uncovered_by state (body.Range field) = None

-- what the code answers of what is left, where a run accepts the withdrawal
abbrev pub IsLeftBy : ExchangeState → ℕ → ℕ → Option ℕ → Type 0
IsLeftBy state account amount None = is_refused state account amount ≡ true
IsLeftBy state account amount (Some left) =
    (is_refused state account amount ≡ false) × (pos left ≡ left_in state account amount)
