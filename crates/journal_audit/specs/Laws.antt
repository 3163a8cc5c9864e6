-- What an audit shows.
use Rattle.std.specs.Prelude.{ℕ, ◌≡◌, ◌⊎◌, ◌↔◌, List, Bool, true, false, None}
use Rattle.frac.specs.Range.{limit}
use Rattle.frac.specs.Value.{fraction_of}
use Rattle.form.specs.Between.{Between}
use Rattle.form.specs.declared.orders.Batch.{Batch}
use Rattle.cert_check.specs.declared.outcome.Verdict.TheVariants as judgement
use Rattle.cert_check.specs.Laws.{IsCovered}
use Rattle.proposal_check.specs.ProposalLaws.{BoundSurplus, HasBound}
use Rattle.proposal_check.specs.Proposals.{as_outcome, bounded_verdict_of}
use Rattle.limits.specs.declared.TheConstants.{MAX_MESSAGE}
use Rattle.proposal_text.specs.declared.replies.BoundedOutcome.{BoundedOutcome}
use Rattle.proposal_text.specs.declared.replies.ProposalReply.{ProposalReply}
use Rattle.proposal_text.specs.declared.replies.ProposalReply.TheVariants as told
use Rattle.proposal_text.specs.declared.replies.ServedReply.{ServedReply}
use Rattle.proposal_text.specs.declared.replies.ServedReply.TheVariants.{Plain, Told}
use Rattle.proposal_text.specs.ReplyValues.{IsProposalLineOf}
use Rattle.journal_check.specs.declared.findings.Finding.TheVariants.{Faulty}
use Rattle.journal_check.specs.declared.reports.Reason.{Reason}
use Rattle.journal_check.specs.declared.reports.Report.{Report}
use Rattle.journal_check.specs.Findings.{fault_in}
use Rattle.journal_check.specs.JournalLines.{lines_of}
use Rattle.journal_check.specs.Laws.{Counts, IsSomeLine, IsSoundLineOf, SaysBy, clears, clears_optimal}
use Rattle.journal_audit.specs.declared.gate_lines.GateLine.{GateLine}
use Rattle.journal_audit.specs.Accepted.{accepted_line, question_line}
use Rattle.journal_audit.specs.Findings.{audit_finding, audit_of}
use Rattle.journal_audit.specs.GateLines.{IsGateLineOf, IsSessionNumber}

-- the judgement is yes: the fills cover the surplus at every settlement, and no fills cover more
-- than the bound, as the measure proves
pub record IsBoundedProved (batch : Batch) (outcome : BoundedOutcome) : Type 0 where
  pub yes : bounded_verdict_of limit batch outcome.proposal (fraction_of outcome.bound) ≡ judgement.Yes
  pub covered : IsCovered batch (as_outcome outcome.proposal)
  pub measured : HasBound batch outcome.proposal (fraction_of outcome.bound)
  pub bounds : BoundSurplus batch outcome.proposal (fraction_of outcome.bound)

abbrev pub IfBounded : ProposalReply → Type 0
IfBounded (told.Bounded number market batch outcome) = IsBoundedProved batch outcome
IfBounded other = Unit {0}

-- the line of what is told beside a run, within its ranges, which is proved if it is a cleared batch
pub record IsProposedLineOf (text : List ℕ) (reply : ProposalReply) : Type 0 where
  pub line : ℕ
  pub is_line : IsProposalLineOf text line reply
  pub proved : IfBounded reply

-- a sound line of `serve`: the print of a reply within its ranges; a cleared line covers its
-- surplus, which is the greatest where it is marked optimal, and within the bound where it is
-- marked bounded
abbrev pub IsServedLineOf : List ℕ → ServedReply → Type 0
IsServedLineOf text (Plain reply) = IsSoundLineOf text reply
IsServedLineOf text (Told reply) = IsProposedLineOf text reply

-- the gate refuses a message
abbrev pub IsGateLineFor : List ℕ → GateLine → Type 0
IsGateLineFor text refused = (line : ℕ) × IsGateLineOf text line refused

-- the line of the reply to an accepted message
pub record IsAcceptedLineOf (text : List ℕ) (reply : ServedReply) : Type 0 where
  pub number : ℕ
  pub session : ℕ
  pub inner : List ℕ
  pub message : Between 1 MAX_MESSAGE number × IsSessionNumber session
  pub served : IsServedLineOf inner reply
  pub is_line : text ≡ accepted_line number session inner

-- the line of the reply to a question
pub record IsQuestionLineOf (text : List ℕ) (reply : ServedReply) : Type 0 where
  pub session : ℕ
  pub inner : List ℕ
  pub is_session : IsSessionNumber session
  pub served : IsServedLineOf inner reply
  pub is_line : text ≡ question_line session inner

-- what is answered to a line, a message or a question
pub data AuditedReply : Type 0 where
  OfServe : ServedReply → AuditedReply
  OfQuestion : ServedReply → AuditedReply
  OfGate : GateLine → AuditedReply

-- a sound line of `serve` or of `serve sessions`
abbrev pub IsAuditedLineOf : List ℕ → AuditedReply → Type 0
IsAuditedLineOf text (OfServe reply) = IsServedLineOf text reply ⊎ IsAcceptedLineOf text reply
IsAuditedLineOf text (OfQuestion reply) = IsQuestionLineOf text reply
IsAuditedLineOf text (OfGate refused) = IsGateLineFor text refused

abbrev pub IsAuditedLine : List ℕ → Type 0
IsAuditedLine = IsSomeLine IsAuditedLineOf

-- ---- what they count for

abbrev pub is_bounded : ProposalReply → Bool
is_bounded (told.Bounded number market batch outcome) = true
is_bounded other = false

abbrev pub serve_clears : ServedReply → Bool
serve_clears (Plain reply) = clears reply
serve_clears (Told reply) = is_bounded reply

abbrev pub serve_bounds : ServedReply → Bool
serve_bounds (Plain reply) = false
serve_bounds (Told reply) = is_bounded reply

abbrev pub serve_is_optimal : ServedReply → Bool
serve_is_optimal (Plain reply) = clears_optimal reply
serve_is_optimal (Told reply) = false

abbrev pub served_counts : Counts ServedReply
served_counts = record { batch = serve_clears; bounded = serve_bounds; optimal = serve_is_optimal }

-- as its reply does, where there is one
abbrev pub as_served : (ServedReply → Bool) → AuditedReply → Bool
as_served counts (OfServe reply) = counts reply
as_served counts (OfQuestion reply) = counts reply
as_served counts (OfGate refused) = false

abbrev pub audit_counts : Counts AuditedReply
audit_counts = record { batch = as_served serve_clears; bounded = as_served serve_bounds; optimal = as_served serve_is_optimal }

-- ---- what a report says

-- the line is found faulty, for this reason
abbrev pub IsFoundFaulty : List ℕ → Reason → Type 0
IsFoundFaulty text reason = audit_finding text ≡ Faulty reason

-- where a report names no line all are sound and counted, and else the line that it names is the
-- first that is found faulty
abbrev pub AuditSays : List (List ℕ) → Report → Type 0
AuditSays = SaysBy IsAuditedLineOf audit_counts IsFoundFaulty

abbrev pub AuditsSay : Type 0
AuditsSay = (bytes : List ℕ) → AuditSays (lines_of bytes) (audit_of bytes)

-- a line is found no fault exactly where it is a sound one
abbrev pub SoundLinesAreFoundSo : Type 0
SoundLinesAreFoundSo = (text : List ℕ) → (fault_in (audit_finding text) ≡ None) ↔ IsAuditedLine text
