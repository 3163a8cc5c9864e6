-- What holds of the replies of all runs.
use Rattle.std.specs.Prelude.{ℕ, ◌≤◌, List, length, ⊤}
use Rattle.std.specs.List.{All}
use Rattle.clearing.specs.Outcome.{outcome_of}
use Rattle.command_text.specs.declared.command.Body.{Body}
use Rattle.command_text.specs.declared.command.Body.TheVariants.{Command, Syntax, Range}
use Rattle.command_text.specs.declared.command.Command.{Command as CommandOf}
use Rattle.command_text.specs.Commands.{body_of_line}
use Rattle.command_text.specs.Within.{IsWithin}
use Rattle.limits.specs.declared.TheConstants.{MAX_BYTES}
use Rattle.exchange_core.specs.ExchangeState.{empty_exchange}
use Rattle.exchange_core.specs.Step.{step}
use Rattle.form.specs.declared.limits.TheConstants.{MAX_BUDGET}
use Rattle.form.specs.declared.orders.Batch.{Batch}
use Rattle.form.specs.Limits.{IsWithinLimits}
use Rattle.exchange_lines.specs.GainRuns.{replies_by}
use Rattle.reply_print.specs.Within.{IsOutcomeWithin, IsReplyWithin}
use Rattle.form.specs.Between.{Between}

-- the field of a line that is refused for a number
abbrev pub HasField : Body → Type 0
HasField (Command command) = ⊤
HasField Syntax = ⊤
HasField (Range field) = Between 2 51 field

abbrev pub FieldsAreWithin : Type 0
FieldsAreWithin = (line : List ℕ) → HasField (body_of_line line)

-- an outcome of a batch within the limits, with a budget that a command may give
abbrev pub OutcomesAreRanged : Type 0
OutcomesAreRanged = (batch : Batch) (units : ℕ) → IsWithinLimits batch → units ≤ MAX_BUDGET → IsOutcomeWithin (outcome_of batch units)

-- whatever commands come to an empty exchange, as many as a run may have lines, each reply is
-- within the ranges of its line
abbrev pub RepliesAreWithin : Type 0
RepliesAreWithin =
    (commands : List CommandOf) → All IsWithin commands → length commands ≤ MAX_BYTES → All IsReplyWithin (replies_by step empty_exchange commands)
