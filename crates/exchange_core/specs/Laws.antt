-- Laws of the step.
use Rattle.std.specs.Prelude.{ℕ, ◌≡◌, List, map, None}
use Rattle.clearing_model.specs.Certificate.{AreFractionFills}
use Rattle.command_text.specs.declared.command.Command.{Command}
use Rattle.exchange_core.specs.ExchangeState.{ExchangeState}
use Rattle.exchange_core.specs.Kept.{IsKept}
use Rattle.exchange_core.specs.Refusals.{by_book}
use Rattle.exchange_core.specs.Step.{batch_in, cleared_with, step}
use Rattle.frac.specs.declared.frac128.Frac128.{Frac128}
use Rattle.frac.specs.Value.{fraction_of}
use Rattle.order_book.specs.Refusals.{batch_refusals}
use Rattle.lists.specs.Refusals.{first_of}
use Rattle.command_text.specs.Within.{IsWithin}

-- what an exchange keeps is kept by each step
abbrev pub StepKeeps : Type 0
StepKeeps = (state : ExchangeState) (command : Command) → IsKept state → IsWithin command → IsKept (step state command).1

-- and by each batch of a market that may be cleared, with whatever fills from 0 to the quantities
abbrev pub ClearsKeep : Type 0
ClearsKeep =
    (state : ExchangeState) (market : ℕ) (fills : List Frac128) → IsKept state
    → first_of (by_book (batch_refusals state.book market)) ≡ None
    → AreFractionFills (batch_in state market).orders (map fraction_of fills) → IsKept (cleared_with state market fills)
