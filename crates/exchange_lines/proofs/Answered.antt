-- The output of a run is the text of its answers, and each of them keeps what is promised.
use Rattle.std.proofs.Common.{◌≡◌, ℕ, List, [], ◌∷◌, ◌++◌, All, refl, ap}
use Rattle.std.proofs.lemmas.List.Elements.{All-nil, All-cons, All-head, All-tail}
use Rattle.cert_check.specs.declared.outcome.Outcome.{Outcome}
use Rattle.cert_check.specs.Laws.{IsCovered}
use Rattle.command_text.specs.declared.command.Body.{Body}
use Rattle.command_text.specs.declared.command.Body.TheVariants.{Command, Syntax, Range}
use Rattle.command_text.specs.declared.command.Line.{Line}
use Rattle.command_text.specs.Lines.{commands_in}
use Rattle.command_text.specs.Within.{BodyIsWithin, IsLineWithin}
use Rattle.command_text.proofs.ReadWithin.{inputs_are_within}
use Rattle.reply_print.specs.declared.replies.Reply.{Reply}
use Rattle.exchange_core.specs.Covered.{IfCleared, OfEachCleared, IsProvedGreatest}
use Rattle.exchange_core.specs.ExchangeState.{ExchangeState, empty_exchange}
use Rattle.exchange_core.specs.Kept.{IsKept}
use Rattle.exchange_core.proofs.Covered.{outcomes_are_judged_yes, step_has, step_is_covered, step_is_optimal, step_is_marked}
use Rattle.exchange_core.proofs.Keeping.{empty_is_kept, step_keeps}
use Rattle.form.specs.declared.orders.Batch.{Batch}
use Rattle.exchange_lines.specs.Output.{output_from}
use Rattle.exchange_core.specs.LineReplies.{reply_to}
use Rattle.exchange_lines.specs.GainRuns.{state_by}
use Rattle.exchange_lines.specs.Promises.{IsCoveredIn, IsGreatestIn, IsJudgedYes, IsJudgedYesIn, IsMarkedIn, KeepsPromises, OutputIsAnswers, OfEachAnswer, line_reply}
use Rattle.exchange_lines.specs.Replies.{Answer, IsMarkedAs, answer_to, answers_from, answers_text, answers}
use Rattle.reply_print.specs.ReplyPieces.{reply_line}

-- what is kept of an exchange is kept by each line
pub answer_keeps : (state : ExchangeState) (said : Body) → IsKept state → BodyIsWithin said → IsKept (reply_to state said).1
answer_keeps state (Command command) kept within = step_keeps state command kept within
answer_keeps state Syntax kept within = kept
answer_keeps state (Range field) kept within = kept

-- so it is by lines one after another
pub lines_keep : (lines : List Line) (state : ExchangeState) → IsKept state → All IsLineWithin lines → IsKept (state_by line_reply state lines)
lines_keep [] state kept within = kept
lines_keep (line ∷ lines) state kept within =
    lines_keep lines (reply_to state line.body).1 (answer_keeps state line.body kept (All-head IsLineWithin line lines within)) (All-tail IsLineWithin line lines within)

-- what holds of the answer to each line, in each state that an exchange may be in, holds of all
module _ (Q : Answer → Type 0) (each : (state : ExchangeState) (line : Line) → IsKept state → Q (answer_to state line)) where
  lines_have : (state : ExchangeState) (lines : List Line) → IsKept state → All IsLineWithin lines → All Q (answers_from state lines)
  lines_have state [] kept within = All-nil Q
  lines_have state (line ∷ lines) kept within =
      let after : ExchangeState = (reply_to state line.body).1 in
      All-cons Q (answer_to state line) (answers_from after lines) (each state line kept)
      (lines_have after lines (answer_keeps state line.body kept (All-head IsLineWithin line lines within)) (All-tail IsLineWithin line lines within))

  answers_have : (input : List ℕ) → All Q (answers input)
  answers_have input = lines_have empty_exchange (commands_in input) empty_is_kept (inputs_are_within input)

-- a refusal clears nothing
reply_has : (P : Batch → Outcome → Type 0) → OfEachCleared P → (state : ExchangeState) (said : Body) → IsKept state → IfCleared P (reply_to state said).0
reply_has P each state (Command command) kept = each state command kept
reply_has P each state Syntax kept = tt
reply_has P each state (Range field) kept = tt

batch_has : (P : Batch → Outcome → Type 0) → OfEachCleared P → (state : ExchangeState) (line : Line) → IsKept state → IfCleared P (answer_to state line).reply
batch_has P each state line kept = reply_has P each state line.body kept

reply_marked : (state : ExchangeState) (said : Body) → IsKept state → IsMarkedAs said (reply_to state said).0
reply_marked state (Command command) kept = step_is_marked state command kept
reply_marked state Syntax kept = tt
reply_marked state (Range field) kept = tt

answer_marked : (state : ExchangeState) (line : Line) → IsKept state → IsMarkedIn (answer_to state line)
answer_marked state line kept = reply_marked state line.body kept

pub answers_are_covered : OfEachAnswer IsCoveredIn
answers_are_covered = answers_have IsCoveredIn (batch_has IsCovered step_is_covered)

pub optimal_is_greatest : OfEachAnswer IsGreatestIn
optimal_is_greatest = answers_have IsGreatestIn (batch_has IsProvedGreatest step_is_optimal)

pub answers_are_judged_yes : OfEachAnswer IsJudgedYesIn
answers_are_judged_yes = answers_have IsJudgedYesIn (batch_has IsJudgedYes (step_has IsJudgedYes outcomes_are_judged_yes))

pub answers_are_marked : OfEachAnswer IsMarkedIn
answers_are_marked = answers_have IsMarkedIn answer_marked

lines_are_written : (lines : List Line) (state : ExchangeState) → output_from state lines ≡ answers_text (answers_from state lines)
lines_are_written [] state = refl
lines_are_written (line ∷ lines) state =
    let now : Reply × ExchangeState = reply_to state line.body in
    ap (λ l. (reply_line line.number now.0 ++ 10 ∷ []) ++ l) (lines_are_written lines now.1)

pub output_is_answers : OutputIsAnswers
output_is_answers input = lines_are_written (commands_in input) empty_exchange

-- each answer keeps what is promised
pub promises_kept : (state : ExchangeState) (line : Line) → IsKept state → KeepsPromises (answer_to state line)
promises_kept state line kept = record {
  covered = batch_has IsCovered step_is_covered state line kept;
  judged = batch_has IsJudgedYes (step_has IsJudgedYes outcomes_are_judged_yes) state line kept;
  greatest = batch_has IsProvedGreatest step_is_optimal state line kept;
  marked = answer_marked state line kept;
}

pub answers_keep : (lines : List Line) → All IsLineWithin lines → All KeepsPromises (answers_from empty_exchange lines)
answers_keep lines within = lines_have KeepsPromises promises_kept empty_exchange lines empty_is_kept within
