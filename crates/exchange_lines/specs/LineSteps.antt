-- What is written for an input by any way of answering its lines; a run's is one.
use Rattle.std.specs.Prelude.{◌≡◌, ◌⊎◌, ℕ, List, [], ◌∷◌, ◌++◌, map, slice_range}
use Rattle.command_text.specs.declared.command.Body.{Body}
use Rattle.command_text.specs.declared.command.Line.{Line}
use Rattle.command_text.specs.declared.lines.RawLine.{RawLine}
use Rattle.command_text.specs.Commands.{body_of_line}
use Rattle.command_text.specs.Lines.{raw_lines_in}
use Rattle.exchange_core.specs.declared.refusal.Refusal.{Refusal}
use Rattle.exchange_core.specs.ExchangeState.{ExchangeState, empty_exchange}
use Rattle.exchange_core.specs.Reply.{refused_with}
use Rattle.exchange_lines.specs.Output.{line_output, output, written_line}
use Rattle.exchange_core.specs.LineReplies.{reply_to}
use Rattle.reply_print.specs.ReplyPieces.{reply_line}

-- what is written for a line with its number in a state, and the state after it
abbrev pub LineStep : Type 0
LineStep = ℕ → ExchangeState → List ℕ → List ℕ × ExchangeState

-- a line of an input, without its end
pub record InputLine : Type 0 where
  pub number : ℕ
  pub bytes : List ℕ

abbrev pub input_line : List ℕ → RawLine → InputLine
input_line input place = record { number = place.number; bytes = slice_range input place.from place.to }

-- the lines of an input, those that are empty left out
abbrev pub input_lines : List ℕ → List InputLine
input_lines input = map (input_line input) (raw_lines_in input)

-- a line with what it says
abbrev pub line_of : InputLine → Line
line_of line = record { number = line.number; body = body_of_line line.bytes }

-- what is written for lines, from a state on
abbrev pub output_by : LineStep → ExchangeState → List InputLine → List ℕ
output_by step state [] = []
output_by step state (line ∷ lines) = let now = step line.number state line.bytes in now.0 ++ output_by step now.1 lines

-- what is written for an input
abbrev pub output_of : LineStep → List ℕ → List ℕ
output_of step input = output_by step empty_exchange (input_lines input)

-- the exchange after lines, from a state on
abbrev pub exchange_by : LineStep → ExchangeState → List InputLine → ExchangeState
exchange_by step state [] = state
exchange_by step state (line ∷ lines) = exchange_by step (step line.number state line.bytes).1 lines

-- the exchange after an input
abbrev pub exchange_of : LineStep → List ℕ → ExchangeState
exchange_of step input = exchange_by step empty_exchange (input_lines input)

-- line by line a run writes its output
abbrev pub RunsAreByLines : Type 0
RunsAreByLines = (input : List ℕ) → output_of line_output input ≡ output input

-- ---- as a run
-- a text is the line of a refusal, with its line feed
abbrev pub IsRefusalText : ℕ → List ℕ → Type 0
IsRefusalText number text = (refusal : Refusal) × (text ≡ reply_line number (refused_with refusal) ++ 10 ∷ [])

-- a run's answer to a line that says this, or one of the texts beside a run's answers, which leaves
-- the exchange as it is
abbrev pub IsAsRun : (ℕ → List ℕ → Type 0) → ℕ → ExchangeState → Body → List ℕ × ExchangeState → Type 0
IsAsRun IsBeside number state said answer =
    (answer ≡ written_line number (reply_to state said)) ⊎ (IsBeside number answer.0 × (answer.1 ≡ state))

-- so is each line answered
abbrev pub AnswersAsRun : (ℕ → List ℕ → Type 0) → LineStep → Type 0
AnswersAsRun IsBeside step = (number : ℕ) (state : ExchangeState) (line : List ℕ)
    → IsAsRun IsBeside number state (body_of_line line) (step number state line)
