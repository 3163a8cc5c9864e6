-- The reports on journals, by what wrote their lines.
use Rattle.std.specs.Prelude.{ℕ, List, [], ◌∷◌, ◌++◌, ◌≡◌}
use Rattle.journal_audit.specs.Findings.{audit_of}
use Rattle.journal_audit.specs.Laws.{AuditSays, IsAuditedLine, IsFoundFaulty}
use Rattle.journal_check.specs.JournalLines.{lines_of}
use Rattle.journal_check.specs.Laws.{HasReason, IsFirstBy, IsSoundLine, Says}
use Rattle.journal_check.specs.Reports.{audit_text, report_of, report_text}
use Rattle.journal_check.specs.declared.reports.Reason.{Reason}
use Rattle.journal_check.specs.declared.reports.Report.{Report}
use Rattle.journal_check.specs.declared.reports.Report.TheVariants.{Faulty}
use Rattle.program_words.specs.declared.requests.Journal.{Journal}
use Rattle.program_words.specs.declared.requests.Journal.TheVariants.{Run, Served}

abbrev pub report_in : Journal → List ℕ → Report
report_in Run input = report_of input
report_in Served input = audit_of input

abbrev pub report_text_in : Journal → Report → List ℕ
report_text_in Run report = report_text report
report_text_in Served report = audit_text report

abbrev pub report_line : Journal → List ℕ → List ℕ
report_line journal input = report_text_in journal (report_in journal input) ++ 10 ∷ []

-- a line is sound
abbrev pub IsSoundIn : Journal → List ℕ → Type 0
IsSoundIn Run text = IsSoundLine text
IsSoundIn Served text = IsAuditedLine text

-- or fails for this reason
abbrev pub FailsIn : Journal → List ℕ → Reason → Type 0
FailsIn Run text reason = HasReason text reason
FailsIn Served text reason = IsFoundFaulty text reason

-- what a report says of the lines, where it names none and where it names one
abbrev pub SaysIn : Journal → List (List ℕ) → Report → Type 0
SaysIn Run texts report = Says texts report
SaysIn Served texts report = AuditSays texts report

-- the report names a line, and it is the first that is not sound
abbrev pub NamesFault : Journal → List ℕ → Type 0
NamesFault journal input =
    (line : ℕ) × (reason : Reason) × (report_in journal input ≡ Faulty line reason) × IsFirstBy (IsSoundIn journal) (FailsIn journal) (lines_of input) line reason
