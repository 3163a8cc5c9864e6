-- What a report on a journal says.
use Rattle.std.specs.Prelude.{ℕ, ◌≡◌, ◌≤◌, ◌-◌, Bool, false, true, List, [], ◌∷◌, ◌++◌, length, map, take, get_or, count_by, Err, None}
use Rattle.std.specs.List.{All}
use Rattle.frac.specs.Range.{limit}
use Rattle.form.specs.declared.orders.Batch.{Batch}
use Rattle.exact_num.specs.declared.misfit.Wide.{Wide as Misfit}
use Rattle.cert_check.specs.declared.outcome.FailedCondition.{FailedCondition}
use Rattle.cert_check.specs.declared.outcome.FailedCondition.TheVariants as no
use Rattle.cert_check.specs.declared.outcome.Verdict.TheVariants as judgement
use Rattle.cert_check.specs.declared.outcome.Outcome.{Outcome}
use Rattle.cert_check.specs.Conditions.{IsFirstUnmet}
use Rattle.cert_check.specs.Events.{verdict_of}
use Rattle.cert_check.specs.Laws.{IsCovered, IsMeasuredIfOptimal, IsProvedIfOptimal}
use Rattle.reply_print.specs.declared.replies.Reply.{Reply}
use Rattle.reply_print.specs.declared.replies.Reply.TheVariants as reply
use Rattle.reply_text.specs.declared.faults.LineFault.TheVariants as fault
use Rattle.reply_text.specs.Reading.{reading, IsLineOf}
use Rattle.journal_check.specs.declared.reports.Reason.{Reason}
use Rattle.journal_check.specs.declared.reports.Reason.TheVariants.{NotJson, Shape, Number, Range, Spelling, BatchShape, Fill, Cover, Measure, Bound, Wide}
use Rattle.journal_check.specs.declared.reports.Report.{Report}
use Rattle.journal_check.specs.declared.reports.Report.TheVariants.{Sound, Faulty}
use Rattle.journal_check.specs.JournalLines.{lines_of}
use Rattle.reply_print.specs.ReplyPieces.{reply_line}
use Rattle.reply_print.specs.Within.{IsWithin}
use Rattle.journal_check.specs.Findings.{fault_in, is_marked, reply_finding}
use Rattle.journal_check.specs.Reports.{sound_report, report_of}

-- ---- a report on lines of any kind, where it is said which are the sound lines of a reply

-- what a reply counts for: whether it clears a batch, whether it marks it bounded, and whether it
-- marks it optimal
pub record Counts (R : Type 0) : Type 0 where
  pub batch : R → Bool
  pub bounded : R → Bool
  pub optimal : R → Bool

-- a sound line of some reply
pub record IsSomeLine {R : Type 0} (IsLine : List ℕ → R → Type 0) (text : List ℕ) : Type 0 where
  pub reply : R
  pub is_line : IsLine text reply

-- the sound lines of these replies, in their order
abbrev pub AreLinesOf : {R : Type 0} → (List ℕ → R → Type 0) → List (List ℕ) → List R → Type 0
AreLinesOf IsLine [] replies = replies ≡ []
AreLinesOf IsLine (text ∷ texts) [] = ⊥
AreLinesOf IsLine (text ∷ texts) (reply ∷ replies) = IsLine text reply × AreLinesOf IsLine texts replies

-- all lines are sound; so many of the replies clear a batch, so many of these mark it bounded, and
-- so many optimal
pub record AreSoundBy {R : Type 0} (IsLine : List ℕ → R → Type 0) (counts : Counts R) (texts : List (List ℕ)) (batches bounded lines optimal : ℕ) : Type 0 where
  pub sound : All (IsSomeLine IsLine) texts
  pub replies : List R
  pub are_lines : AreLinesOf IsLine texts replies
  pub count : lines ≡ length texts
  pub cleared : batches ≡ count_by counts.batch replies
  pub limited : bounded ≡ count_by counts.bounded replies
  pub marked : optimal ≡ count_by counts.optimal replies

-- the line of this number, counted from 1, fails for the reason, and those before it are sound
pub record IsFirstBy (IsSound : List ℕ → Type 0) (Fails : List ℕ → Reason → Type 0) (texts : List (List ℕ)) (line : ℕ) (reason : Reason) : Type 0 where
  pub some : 1 ≤ line
  pub within : line ≤ length texts
  pub before : All IsSound (take (line - 1) texts)
  pub fails : Fails (get_or texts (line - 1) []) reason

abbrev pub SaysBy : {R : Type 0} → (List ℕ → R → Type 0) → Counts R → (List ℕ → Reason → Type 0) → List (List ℕ) → Report → Type 0
SaysBy IsLine counts Fails texts (Sound batches bounded lines optimal) = AreSoundBy IsLine counts texts batches bounded lines optimal
SaysBy IsLine counts Fails texts (Faulty line reason) = IsFirstBy (IsSomeLine IsLine) Fails texts line reason

-- ---- a report on lines of a run

-- the verdict is yes: so the fills cover the claimed surplus, and with the mark optimal no fills
-- cover more, as the measure proves
pub record IsCertified (batch : Batch) (outcome : Outcome) : Type 0 where
  pub yes : verdict_of limit batch outcome ≡ judgement.Yes
  pub covered : IsCovered batch outcome
  pub proved : IsProvedIfOptimal batch outcome
  pub measured : IsMeasuredIfOptimal batch outcome

abbrev pub IfCleared : Reply → (Batch → Outcome → Type 0) → Type 0
IfCleared (reply.Cleared number market batch outcome) P = P batch outcome
IfCleared other P = Unit {0}

-- the line of a reply within its ranges, which is certified if it is a cleared batch
pub record IsSoundLineOf (text : List ℕ) (reply : Reply) : Type 0 where
  pub line : ℕ
  pub is_line : IsLineOf text line reply
  pub certified : IfCleared reply IsCertified

abbrev pub IsSoundLine : List ℕ → Type 0
IsSoundLine = IsSomeLine IsSoundLineOf

-- the line of a cleared batch and an outcome of which something holds
pub record IsClearedLine (text : List ℕ) (P : Batch → Outcome → Type 0) : Type 0 where
  pub line : ℕ
  pub number : ℕ
  pub market : ℕ
  pub batch : Batch
  pub outcome : Outcome
  pub is_line : IsLineOf text line (reply.Cleared number market batch outcome)
  pub has : P batch outcome

-- the first condition that is not met is this one
abbrev pub IsUnmet : List ℕ → FailedCondition → Type 0
IsUnmet text condition = IsClearedLine text (λ batch outcome. IsFirstUnmet batch outcome condition)

-- the line fails the test first
abbrev pub HasReason : List ℕ → Reason → Type 0
HasReason text NotJson = reading text ≡ Err fault.NotJson
HasReason text Shape = reading text ≡ Err fault.Shape
HasReason text Number = reading text ≡ Err fault.Number
HasReason text Range = reading text ≡ Err fault.Range
HasReason text Spelling = reading text ≡ Err fault.Spelling
HasReason text BatchShape = IsUnmet text no.BatchShape
HasReason text Fill = IsUnmet text no.Fill
HasReason text Cover = IsUnmet text no.Cover
HasReason text Measure = IsUnmet text no.Measure
HasReason text Bound = IsUnmet text no.Bound
HasReason text Wide = IsClearedLine text (λ batch outcome. (w : Misfit) × (verdict_of limit batch outcome ≡ judgement.Wide w))

-- whether a reply clears a batch, and whether it marks it optimal; a run marks none bounded
abbrev pub clears : Reply → Bool
clears (reply.Cleared number market batch outcome) = true
clears other = false

abbrev pub clears_optimal : Reply → Bool
clears_optimal (reply.Cleared number market batch outcome) = is_marked outcome.mark
clears_optimal other = false

abbrev pub clears_bounded : Reply → Bool
clears_bounded reply = false

abbrev pub reply_counts : Counts Reply
reply_counts = record { batch = clears; bounded = clears_bounded; optimal = clears_optimal }

abbrev pub Says : List (List ℕ) → Report → Type 0
Says = SaysBy IsSoundLineOf reply_counts HasReason

-- where a report names no line all are sound and counted, and else the line that it names is the
-- first that is not
abbrev pub ReportsSay : Type 0
ReportsSay = (bytes : List ℕ) → Says (lines_of bytes) (report_of bytes)

-- a line and a reply within their ranges, which is no fault
pub record IsSoundReply (pair : ℕ × Reply) : Type 0 where
  pub within : IsWithin pair.0 pair.1
  pub sound : fault_in (reply_finding pair.1) ≡ None

-- the lines of replies, each with its line feed
abbrev pub journal_of : List (ℕ × Reply) → List ℕ
journal_of [] = []
journal_of (pair ∷ pairs) = reply_line pair.0 pair.1 ++ 10 ∷ journal_of pairs

-- a journal of sound replies is sound, and the report has their counts
abbrev pub JournalsAreCounted : Type 0
JournalsAreCounted =
    (pairs : List (ℕ × Reply)) → All IsSoundReply pairs
    → report_of (journal_of pairs) ≡ sound_report (map (λ pair. reply_finding pair.1) pairs)
