-- The replies to lines, one after another.
use Rattle.std.specs.Prelude.{List, [], ◌∷◌}
use Rattle.command_text.specs.declared.command.Body.{Body}
use Rattle.command_text.specs.declared.command.Body.TheVariants.{Command, Syntax, Range}
use Rattle.command_text.specs.declared.command.Line.{Line}
use Rattle.exchange_core.specs.declared.refusal.Refusal.TheVariants as refusal
use Rattle.reply_print.specs.declared.replies.Reply.{Reply}
use Rattle.exchange_core.specs.ExchangeState.{ExchangeState}
use Rattle.exchange_core.specs.Step.{step, refusal_effect}

-- the reply to what a line says, and the state after it
abbrev pub reply_to : ExchangeState → Body → Reply × ExchangeState
reply_to state (Command command) = step state command
reply_to state Syntax = refusal_effect state refusal.Syntax
reply_to state (Range field) = refusal_effect state (refusal.Range field)

-- the replies to lines from a state on, and the state after them
abbrev pub replies_from : ExchangeState → List Line → List Reply × ExchangeState
replies_from state [] = ([], state)
replies_from state (line ∷ lines) =
    let now = reply_to state line.body in
    let later = replies_from now.1 lines in (now.0 ∷ later.0, later.1)
