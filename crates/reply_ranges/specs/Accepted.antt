-- What `check` says of what `run` wrote.
use Rattle.std.specs.Prelude.{◌≡◌, ◌≤◌, ℕ, List, length, map}
use Rattle.std.specs.List.{All}
use Rattle.journal_check.specs.Findings.{reply_finding}
use Rattle.journal_check.specs.Reports.{sound_report, report_of}
use Rattle.reply_print.specs.Within.{IsWithin}
use Rattle.exchange_lines.specs.Output.{output}
use Rattle.exchange_lines.specs.Replies.{Answer, answers}
use Rattle.limits.specs.declared.TheConstants.{MAX_BYTES}

-- the line and its reply are within their ranges
abbrev pub IsAnswerWithin : Answer → Type 0
IsAnswerWithin answer = IsWithin answer.line answer.reply

-- an input of at most so many bytes is read
abbrev pub IsInput : List ℕ → Type 0
IsInput input = length input ≤ MAX_BYTES

-- each line that is written for an input is within its ranges
abbrev pub AnswersAreWithin : Type 0
AnswersAreWithin = (input : List ℕ) → IsInput input → All IsAnswerWithin (answers input)

-- the report on what is written for an input has the counts of its replies, and names no line
abbrev pub RunsAreAccepted : Type 0
RunsAreAccepted = (input : List ℕ) → IsInput input → report_of (output input) ≡ sound_report (map (λ (answer : Answer). reply_finding answer.reply) (answers input))
