-- The replies of a run, as a function of its input.
use Rattle.std.specs.Prelude.{ℕ, List, [], ◌∷◌, ◌++◌, ⊤}
use Rattle.command_text.specs.declared.command.Body.{Body}
use Rattle.command_text.specs.declared.command.Body.TheVariants.{Command, Syntax, Range}
use Rattle.command_text.specs.declared.command.Line.{Line}
use Rattle.command_text.specs.Lines.{commands_in}
use Rattle.reply_print.specs.declared.replies.Reply.{Reply}
use Rattle.exchange_core.specs.Covered.{IsMarkedFor}
use Rattle.exchange_core.specs.ExchangeState.{ExchangeState, empty_exchange}
use Rattle.exchange_core.specs.LineReplies.{reply_to}
use Rattle.reply_print.specs.ReplyPieces.{reply_line}

-- what a line says, and the reply to it
pub record Answer : Type 0 where
  pub line : ℕ
  pub said : Body
  pub reply : Reply

abbrev pub answer_to : ExchangeState → Line → Answer
answer_to state line = record { line = line.number; said = line.body; reply = (reply_to state line.body).0 }

-- the answers to lines, from a state on
abbrev pub answers_from : ExchangeState → List Line → List Answer
answers_from state [] = []
answers_from state (line ∷ lines) = answer_to state line ∷ answers_from (reply_to state line.body).1 lines

-- the answers to an input
abbrev pub answers : List ℕ → List Answer
answers input = answers_from empty_exchange (commands_in input)

-- the text of each reply, with its line feed
abbrev pub answers_text : List Answer → List ℕ
answers_text [] = []
answers_text (answer ∷ more) = (reply_line answer.line answer.reply ++ 10 ∷ []) ++ answers_text more

-- a reply that clears a batch has the mark and the units of the end of its reference run within the
-- budget of the command
abbrev pub IsMarkedAs : Body → Reply → Type 0
IsMarkedAs (Command command) reply = IsMarkedFor command reply
IsMarkedAs Syntax reply = ⊤
IsMarkedAs (Range field) reply = ⊤
