-- Whatever answers lines as a run does, but for texts beside these that change nothing, tells
-- answers that keep what is promised.
use Rattle.std.proofs.Common.{◌≡◌, inl, inr, ℕ, List, [], ◌∷◌, ◌++◌, All, map, refl, sym, ap, ◌∙◌, subst}
use Rattle.std.proofs.lemmas.List.Elements.{All-nil, All-cons}
use Rattle.command_text.specs.declared.command.Line.{Line}
use Rattle.command_text.specs.declared.lines.RawLine.{RawLine}
use Rattle.command_text.specs.Commands.{body_of_line}
use Rattle.command_text.specs.Lines.{line_at, raw_lines_in}
use Rattle.command_text.specs.Within.{IsLineWithin}
use Rattle.command_text.proofs.LinePlaces.{lines_are_at_their_places}
use Rattle.command_text.proofs.ReadWithin.{lines_are_within}
use Rattle.exchange_core.specs.ExchangeState.{ExchangeState, empty_exchange}
use Rattle.exchange_lines.specs.GainRuns.{HouseGains, state_by}
use Rattle.exchange_core.specs.LineReplies.{reply_to}
use Rattle.exchange_lines.specs.LineSteps.{AnswersAsRun, InputLine, LineStep, RunsAreByLines, exchange_by, input_line, input_lines, line_of, output_by}
use Rattle.exchange_lines.specs.Output.{line_output, output_from}
use Rattle.exchange_lines.specs.Promises.{AreAnswersTo, IsNoText, KeepsPromises, LineAnswer, OutputTells, RunsTellAnswers, TellAnswers, beside, line_reply, replied, replied_in, replies_of, told_texts}
use Rattle.exchange_lines.specs.Replies.{answer_to, answers_from}
use Rattle.exchange_core.specs.Kept.{IsKept}
use Rattle.exchange_core.proofs.Keeping.{empty_is_kept}
use Rattle.exchange_lines.proofs.Answered.{answers_keep, lines_keep}
use Rattle.exchange_lines.proofs.HouseGains.{lines_gain}

module _ (IsBeside : ℕ → List ℕ → Type 0) (step : LineStep) (as_run : AnswersAsRun IsBeside step) where
  -- the answers to lines, of which a run's are its answers to some of the lines
  record LinesTold (state : ExchangeState) (lines : List InputLine) : Type 0 where
    answers : List LineAnswer
    to_lines : AreAnswersTo IsBeside step state lines answers
    text : output_by step state lines ≡ told_texts answers
    ran : List Line
    within : All IsLineWithin ran
    replies : replied_in answers ≡ answers_from state ran
    end : exchange_by step state lines ≡ state_by line_reply state ran

  none_told : (state : ExchangeState) → LinesTold state []
  none_told state = record { answers = []; to_lines = refl; text = refl; ran = []; within = All-nil IsLineWithin; replies = refl; end = refl }

  one_replied : (state : ExchangeState) (line : InputLine) (lines : List InputLine) → step line.number state line.bytes ≡ line_output line.number state line.bytes
      → LinesTold (reply_to state (body_of_line line.bytes)).1 lines → LinesTold state (line ∷ lines)
  one_replied state line lines is later =
      let answer = answer_to state (line_of line) in
      record {
        answers = replied answer ∷ later.answers;
        to_lines = ((refl, is), subst (λ (now : List ℕ × ExchangeState). AreAnswersTo IsBeside step now.1 lines later.answers) (sym is) later.to_lines);
        text = ap (λ (now : List ℕ × ExchangeState). now.0 ++ output_by step now.1 lines) is
            ∙ ap (λ l. (line_output line.number state line.bytes).0 ++ l) later.text;
        ran = line_of line ∷ later.ran;
        within = All-cons IsLineWithin (line_of line) later.ran (lines_are_within line.bytes) later.within;
        replies = ap (λ l. answer ∷ l) later.replies;
        end = ap (λ (now : List ℕ × ExchangeState). exchange_by step now.1 lines) is ∙ later.end;
      }

  one_beside : (state : ExchangeState) (line : InputLine) (lines : List InputLine) → IsBeside line.number (step line.number state line.bytes).0
      → (step line.number state line.bytes).1 ≡ state → LinesTold state lines → LinesTold state (line ∷ lines)
  one_beside state line lines is same later =
      let text = (step line.number state line.bytes).0 in
      record {
        answers = beside line.number text ∷ later.answers;
        to_lines = ((refl, is, ap (λ s. (text, s)) same), subst (λ s. AreAnswersTo IsBeside step s lines later.answers) (sym same) later.to_lines);
        text = ap (λ s. text ++ output_by step s lines) same ∙ ap (λ l. text ++ l) later.text;
        ran = later.ran;
        within = later.within;
        replies = later.replies;
        end = ap (λ s. exchange_by step s lines) same ∙ later.end;
      }

  all_told : (lines : List InputLine) (state : ExchangeState) → LinesTold state lines
  all_told [] state = none_told state
  all_told (line ∷ lines) state = elim (as_run line.number state line.bytes) [
    | inl is ↦ one_replied state line lines is (all_told lines (reply_to state (body_of_line line.bytes)).1)
    | inr is ↦ one_beside state line lines is.0 is.1 (all_told lines state)
  ]

  -- what is written for an input keeps what is promised
  pub output_tells : OutputTells IsBeside step
  output_tells input =
      let told = all_told (input_lines input) empty_exchange in
      record {
        answers = told.answers;
        to_lines = told.to_lines;
        text = told.text;
        promises = subst (All KeepsPromises) (sym told.replies) (answers_keep told.ran told.within);
        gains = subst (λ (state : ExchangeState). HouseGains state.entries (replies_of (replied_in told.answers))) (sym told.end)
            (subst (λ given. HouseGains (state_by line_reply empty_exchange told.ran).entries (replies_of given)) (sym told.replies) (lines_gain told.ran told.within));
        kept = subst IsKept (sym told.end) (lines_keep told.ran empty_exchange empty_is_kept told.within);
      }

-- ---- a run
places_are_written : (input : List ℕ) (places : List RawLine) (state : ExchangeState)
    → output_by line_output state (map (input_line input) places) ≡ output_from state (map (line_at input) places)
places_are_written input [] state = refl
places_are_written input (place ∷ places) state =
    let now = line_output place.number state (input_line input place).bytes in
    ap (λ l. now.0 ++ l) (places_are_written input places now.1)

pub runs_are_by_lines : RunsAreByLines
runs_are_by_lines input = places_are_written input (raw_lines_in input) empty_exchange ∙ ap (output_from empty_exchange) (sym (lines_are_at_their_places input))

pub runs_tell_answers : RunsTellAnswers
runs_tell_answers input =
    subst (TellAnswers IsNoText line_output input) (runs_are_by_lines input) (output_tells IsNoText line_output (λ number state line. inl refl) input)
