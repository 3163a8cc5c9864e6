-- What is promised of the bytes that are written where all lines of `serve` are answered.
use Rattle.std.specs.Prelude.{ℕ, ◌≡◌, List, Ok}
use Rattle.std.specs.List.{All}
use Rattle.command_text.specs.declared.requests.Request.TheVariants as asks
use Rattle.command_text.specs.declared.words.TheConstants.{SERVED}
use Rattle.command_text.specs.Said.{said_in}
use Rattle.exchange_lines.specs.LineSteps.{InputLine, input_lines}
use Rattle.proposal_lines.specs.Promises.{TellsBy, proposing_output, state_by}
use Rattle.serve_lines.specs.Output.{serving_line, serving_output}
use Rattle.serve_lines.specs.ServingState.{ServingState, empty_serving}

abbrev pub state_by_lines : ServingState → List InputLine → ServingState
state_by_lines = state_by serving_line

-- they keep what is promised of an exchange that takes proposals
abbrev pub TellServing : List ℕ → List ℕ → Type 0
TellServing = TellsBy (λ (state : ServingState). state.proposing) serving_line empty_serving

abbrev pub OutputsTellServing : Type 0
OutputsTellServing = (input : List ℕ) → TellServing input (serving_output input)

-- ---- where no market is closed
-- the line neither closes a market nor opens one again
pub record NamesNoPhase (line : InputLine) : Type 0 where
  pub closes : (market : ℕ) → said_in SERVED line.bytes ≡ Ok (asks.Close market) → ⊥
  pub reopens : (market : ℕ) → said_in SERVED line.bytes ≡ Ok (asks.Reopen market) → ⊥

-- for an input of such lines it is written what an exchange without phases writes
abbrev pub WithoutPhases : Type 0
WithoutPhases = (input : List ℕ) → All NamesNoPhase (input_lines input) → serving_output input ≡ proposing_output input
