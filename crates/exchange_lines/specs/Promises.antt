-- What a run promises of the bytes that it writes.
use Rattle.std.specs.Prelude.{◌≡◌, List, [], ◌∷◌, ◌++◌, ℕ, map}
use Rattle.std.specs.List.{All}
use Rattle.frac.specs.Range.{limit}
use Rattle.form.specs.declared.orders.Batch.{Batch}
use Rattle.cert_check.specs.declared.outcome.Verdict.TheVariants.{Yes}
use Rattle.cert_check.specs.declared.outcome.Outcome.{Outcome}
use Rattle.cert_check.specs.Events.{verdict_of}
use Rattle.cert_check.specs.Laws.{IsCovered}
use Rattle.command_text.specs.declared.command.Line.{Line}
use Rattle.command_text.specs.Lines.{commands_in}
use Rattle.exchange_core.specs.Covered.{IfCleared, IsProvedGreatest}
use Rattle.reply_print.specs.declared.replies.Reply.{Reply}
use Rattle.reply_print.specs.ReplyPieces.{reply_line}
use Rattle.exchange_core.specs.ExchangeState.{ExchangeState, empty_exchange}
use Rattle.exchange_core.specs.Kept.{IsKept}
use Rattle.exchange_lines.specs.GainRuns.{HouseGains, state_by}
use Rattle.exchange_lines.specs.LineSteps.{InputLine, LineStep, exchange_of, input_lines, line_of, output_of}
use Rattle.exchange_lines.specs.Output.{line_output, output}
use Rattle.exchange_core.specs.LineReplies.{reply_to}
use Rattle.exchange_lines.specs.Replies.{Answer, IsMarkedAs, answer_to, answers, answers_text}

-- ---- of each answer
-- where it clears a batch, the fills cover its surplus at every settlement, and it is not below 0
abbrev pub IsCoveredIn : Answer → Type 0
IsCoveredIn answer = IfCleared IsCovered answer.reply

-- a batch that is marked optimal has the greatest surplus of any fractional fills, and its measure
-- proves it
abbrev pub IsGreatestIn : Answer → Type 0
IsGreatestIn answer = IfCleared IsProvedGreatest answer.reply

-- the verdict on a batch that is cleared is yes
abbrev pub IsJudgedYes : Batch → Outcome → Type 0
IsJudgedYes batch outcome = verdict_of limit batch outcome ≡ Yes

abbrev pub IsJudgedYesIn : Answer → Type 0
IsJudgedYesIn answer = IfCleared IsJudgedYes answer.reply

-- a batch lacks this mark only where its reference run stops, at the step or for want of the unit
-- that the reply tells
abbrev pub IsMarkedIn : Answer → Type 0
IsMarkedIn answer = IsMarkedAs answer.said answer.reply

pub record KeepsPromises (answer : Answer) : Type 0 where
  pub covered : IsCoveredIn answer
  pub judged : IsJudgedYesIn answer
  pub greatest : IsGreatestIn answer
  pub marked : IsMarkedIn answer

-- ---- of all answers
abbrev pub replies_of : List Answer → List Reply
replies_of answers = map (λ (answer : Answer). answer.reply) answers

-- the reply to a line, and the state after it
abbrev pub line_reply : ExchangeState → Line → Reply × ExchangeState
line_reply state line = reply_to state line.body

-- the state after an input
abbrev pub state_after : List ℕ → ExchangeState
state_after input = state_by line_reply empty_exchange (commands_in input)

-- ---- of the lines of an input
-- what is told for a line: a run's answer, or a text beside these
pub data LineAnswer : Type 0 where
  replied : Answer → LineAnswer
  beside : (line : ℕ) (text : List ℕ) → LineAnswer

-- the answers that are a run's
abbrev pub replied_in : List LineAnswer → List Answer
replied_in [] = []
replied_in (replied answer ∷ more) = answer ∷ replied_in more
replied_in (beside line text ∷ more) = replied_in more

abbrev pub told_text : LineAnswer → List ℕ
told_text (replied answer) = reply_line answer.line answer.reply ++ 10 ∷ []
told_text (beside line text) = text

abbrev pub told_texts : List LineAnswer → List ℕ
told_texts [] = []
told_texts (answer ∷ more) = told_text answer ++ told_texts more

-- the step tells this for the line in the state: a run's answer to what the line says, or one of
-- the texts beside these, by which the state stays
abbrev pub IsAnswerTo : (ℕ → List ℕ → Type 0) → LineStep → ExchangeState → InputLine → LineAnswer → Type 0
IsAnswerTo IsBeside step state line (replied answer) =
    (answer ≡ answer_to state (line_of line)) × (step line.number state line.bytes ≡ line_output line.number state line.bytes)
IsAnswerTo IsBeside step state line (beside number text) =
    (number ≡ line.number) × IsBeside number text × (step line.number state line.bytes ≡ (text, state))

-- one for each line, in order, each in the state that the lines before it left
abbrev pub AreAnswersTo : (ℕ → List ℕ → Type 0) → LineStep → ExchangeState → List InputLine → List LineAnswer → Type 0
AreAnswersTo IsBeside step state [] answers = answers ≡ []
AreAnswersTo IsBeside step state (line ∷ lines) [] = ⊥
AreAnswersTo IsBeside step state (line ∷ lines) (answer ∷ answers) =
    IsAnswerTo IsBeside step state line answer × AreAnswersTo IsBeside step (step line.number state line.bytes).1 lines answers

-- the bytes are the text of the answers to the lines of the input; each keeps what is promised,
-- they leave the house its gains, and the exchange keeps to what holds between two lines
pub record TellAnswers (IsBeside : ℕ → List ℕ → Type 0) (step : LineStep) (input bytes : List ℕ) : Type 0 where
  pub answers : List LineAnswer
  pub to_lines : AreAnswersTo IsBeside step empty_exchange (input_lines input) answers
  pub text : bytes ≡ told_texts answers
  pub promises : All KeepsPromises (replied_in answers)
  pub gains : HouseGains (exchange_of step input).entries (replies_of (replied_in answers))
  pub kept : IsKept (exchange_of step input)

-- a run writes nothing beside its answers
abbrev pub IsNoText : ℕ → List ℕ → Type 0
IsNoText line text = ⊥

-- ---- of the defined output, whatever the input
-- what is written by this step, with these texts beside a run's answers, tells answers
abbrev pub OutputTells : (ℕ → List ℕ → Type 0) → LineStep → Type 0
OutputTells IsBeside step = (input : List ℕ) → TellAnswers IsBeside step input (output_of step input)

abbrev pub RunsTellAnswers : Type 0
RunsTellAnswers = (input : List ℕ) → TellAnswers IsNoText line_output input (output input)

abbrev pub OutputIsAnswers : Type 0
OutputIsAnswers = (input : List ℕ) → output input ≡ answers_text (answers input)

-- a fact of each answer to each input
abbrev pub OfEachAnswer : (Answer → Type 0) → Type 0
OfEachAnswer Holds = (input : List ℕ) → All Holds (answers input)

-- whatever the input, the house gains at least each surplus, and its entries for each batch sum to
-- the gain
abbrev pub AnswersGain : Type 0
AnswersGain = (input : List ℕ) → HouseGains (state_after input).entries (replies_of (answers input))
