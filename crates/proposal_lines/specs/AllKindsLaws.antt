-- What holds of the answers to all lines.
use Rattle.std.specs.Prelude.{◌≡◌, ℕ, List, true}
use Rattle.command_text.specs.declared.words.LineWord.{LineWord}
use Rattle.exchange_core.specs.ExchangeState.{empty_exchange}
use Rattle.exchange_lines.specs.LineSteps.{AnswersAsRun, LineStep, output_of}
use Rattle.exchange_lines.specs.Promises.{TellAnswers}
use Rattle.live_lines.specs.Output as live
use Rattle.proposal_lines.specs.AllKinds.{IsBesideText, all_line}

-- whatever words may begin it, each line is answered as in a run, or by a text beside a run's
-- answers, and then the exchange is as it was
abbrev pub AllAnswerAsRun : Type 0
AllAnswerAsRun = (words : List LineWord) → AnswersAsRun IsBesideText (all_line words)

-- by any way of answering, what is written for an input that is answered between two reads, its
-- mark at the start skipped, is what is written for its lines one after another
abbrev pub OutputsAreOfLines : Type 0
OutputsAreOfLines = (step : LineStep) (input : List ℕ) → live.output_of step true empty_exchange input ≡ output_of step input

-- it tells the answers to the lines of the input: a run's, which keep what is promised, and texts
-- beside them
abbrev pub OutputsTell : Type 0
OutputsTell =
    (words : List LineWord) (input : List ℕ) → TellAnswers IsBesideText (all_line words) input (live.output_of (all_line words) true empty_exchange input)
