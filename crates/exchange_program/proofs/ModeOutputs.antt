-- What is written for an input in a mode.
use Rattle.std.proofs.Common.{◌≡◌, ℕ, List, [], ◌∷◌, ◌++◌, true, refl, ap, ◌∙◌, slice_range}
use Rattle.command_text.specs.declared.lines.RawLine.{RawLine}
use Rattle.command_text.specs.Lines.{raw_lines_in}
use Rattle.exchange_core.specs.ExchangeState.{ExchangeState, empty_exchange}
use Rattle.exchange_lines.specs.Output.{line_output}
use Rattle.exchange_lines.proofs.AsRun.{runs_are_by_lines}
use Rattle.guarded_lines.specs.Output.{guarded_line}
use Rattle.live_lines.specs.Output.{output_of, places_output}
use Rattle.program_words.specs.declared.requests.Mode.{Mode}
use Rattle.program_words.specs.declared.requests.Mode.TheVariants.{Run, Quotes, Guarded}
use Rattle.served_members.proofs.ProposalOutputs.{outputs_are_of_lines}
use Rattle.quote_lines.specs.Output.{quotes_line}
use Rattle.exchange_program.specs.Modes.{mode_output, mode_step, step_in}

-- the mode stays as it is
in_mode : (mode : Mode) (input : List ℕ) (state : ExchangeState) (places : List RawLine)
    → places_output mode_step input (mode, state) places ≡ places_output (step_in mode) input state places
in_mode mode input state [] = refl
in_mode mode input state (place ∷ places) =
    let now = step_in mode place.number state (slice_range input place.from place.to) in
    ap (λ l. now.0 ++ l) (in_mode mode input now.1 places)

pub mode_outputs : (mode : Mode) (input : List ℕ) → output_of mode_step true (mode, empty_exchange) input ≡ mode_output mode input
mode_outputs Run input = in_mode Run input empty_exchange (raw_lines_in input) ∙ outputs_are_of_lines line_output input ∙ runs_are_by_lines input
mode_outputs Quotes input = in_mode Quotes input empty_exchange (raw_lines_in input) ∙ outputs_are_of_lines quotes_line input
mode_outputs Guarded input = in_mode Guarded input empty_exchange (raw_lines_in input) ∙ outputs_are_of_lines guarded_line input
