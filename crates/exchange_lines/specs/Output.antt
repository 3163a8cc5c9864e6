-- The output of a run, as a function of its input.
use Rattle.std.specs.Prelude.{ℕ, List, [], ◌∷◌, ◌++◌}
use Rattle.command_text.specs.declared.command.Line.{Line}
use Rattle.command_text.specs.Commands.{body_of_line}
use Rattle.command_text.specs.Lines.{commands_in}
use Rattle.reply_print.specs.declared.replies.Reply.{Reply}
use Rattle.exchange_core.specs.ExchangeState.{ExchangeState, empty_exchange}
use Rattle.exchange_core.specs.LineReplies.{reply_to}
use Rattle.reply_print.specs.ReplyPieces.{reply_line}

-- the reply line, with its line feed
abbrev pub written_line : ℕ → Reply × ExchangeState → List ℕ × ExchangeState
written_line number result = (reply_line number result.0 ++ 10 ∷ [], result.1)

-- what is written for a line of these bytes, and the state after it
abbrev pub line_output : ℕ → ExchangeState → List ℕ → List ℕ × ExchangeState
line_output number state line = written_line number (reply_to state (body_of_line line))

-- what is written for lines, from a state on
abbrev pub output_from : ExchangeState → List Line → List ℕ
output_from state [] = []
output_from state (line ∷ lines) = let now = written_line line.number (reply_to state line.body) in now.0 ++ output_from now.1 lines

-- what a run writes for its input
abbrev pub output : List ℕ → List ℕ
output input = output_from empty_exchange (commands_in input)
