-- What each mode of answering command lines writes and tells.
use Rattle.std.specs.Prelude.{ℕ, List}
use Rattle.exchange_core.specs.ExchangeState.{ExchangeState}
use Rattle.exchange_lines.specs.LineSteps.{LineStep, output_of}
use Rattle.exchange_lines.specs.Output.{line_output, output}
use Rattle.exchange_lines.specs.Promises.{IsNoText}
use Rattle.guarded_lines.specs.Output.{IsMarginText, guarded_line}
use Rattle.program_words.specs.declared.requests.Mode.{Mode}
use Rattle.program_words.specs.declared.requests.Mode.TheVariants.{Run, Quotes, Guarded}
use Rattle.quote_lines.specs.Output.{IsQuoteText, quotes_line}

-- how a line is answered
abbrev pub step_in : Mode → LineStep
step_in Run = line_output
step_in Quotes = quotes_line
step_in Guarded = guarded_line

-- a mode, and the exchange
abbrev pub ModeState : Type 0
ModeState = Mode × ExchangeState

-- what is written for a line with its number, and the state after it
abbrev pub mode_step : ℕ → ModeState → List ℕ → List ℕ × ModeState
mode_step number state line = let now = step_in state.0 number state.1 line in (now.0, (state.0, now.1))

-- what is written for an input
abbrev pub mode_output : Mode → List ℕ → List ℕ
mode_output Run input = output input
mode_output Quotes input = output_of quotes_line input
mode_output Guarded input = output_of guarded_line input

-- what is written for a line beside a run's answers, with its number
abbrev pub IsBesideIn : Mode → ℕ → List ℕ → Type 0
IsBesideIn Run number text = IsNoText number text
IsBesideIn Quotes number text = IsQuoteText number text
IsBesideIn Guarded number text = IsMarginText number text
