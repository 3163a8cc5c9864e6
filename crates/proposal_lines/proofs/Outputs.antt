-- The output of an input that is answered between two reads.
use Rattle.std.proofs.Common.{◌≡◌, ℕ, List, [], ◌∷◌, ◌++◌, map, refl, sym, ap, subst}
use Rattle.command_text.specs.declared.lines.RawLine.{RawLine}
use Rattle.command_text.specs.Lines.{raw_lines_in}
use Rattle.exchange_core.specs.ExchangeState.{ExchangeState, empty_exchange}
use Rattle.exchange_lines.specs.LineSteps.{LineStep, input_line, output_by}
use Rattle.exchange_lines.specs.Promises.{TellAnswers}
use Rattle.exchange_lines.proofs.AsRun.{output_tells}
use Rattle.live_lines.specs.Output.{places_output}
use Rattle.proposal_lines.specs.AllKindsLaws.{OutputsAreOfLines, OutputsTell}
use Rattle.proposal_lines.specs.AllKinds.{IsBesideText, all_line}
use Rattle.proposal_lines.proofs.AsRun.{all_answer_as_run}

by_places : (step : LineStep) (input : List ℕ) (state : ExchangeState) (places : List RawLine)
    → places_output step input state places ≡ output_by step state (map (input_line input) places)
by_places step input state [] = refl
by_places step input state (place ∷ places) =
    let now = step place.number state (input_line input place).bytes in
    ap (λ l. now.0 ++ l) (by_places step input now.1 places)

pub outputs_are_of_lines : OutputsAreOfLines
outputs_are_of_lines step input = by_places step input empty_exchange (raw_lines_in input)

pub outputs_tell : OutputsTell
outputs_tell words input =
    subst (TellAnswers IsBesideText (all_line words) input) (sym (outputs_are_of_lines (all_line words) input))
    (output_tells IsBesideText (all_line words) (all_answer_as_run words) input)
