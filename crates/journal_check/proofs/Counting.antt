-- A report on what is left of a journal, behind the lines that were counted.
use Rattle.std.proofs.Common.{ℕ, ◌+◌, List, length, Option, Some, None, count_by}
use Rattle.journal_check.specs.declared.findings.Finding.{Finding}
use Rattle.journal_check.specs.declared.reports.Reason.{Reason}
use Rattle.journal_check.specs.declared.reports.Report.{Report}
use Rattle.journal_check.specs.declared.reports.Report.TheVariants.{Sound, Faulty}
use Rattle.journal_check.specs.Findings.{is_batch, is_bounded, is_optimal}
use Rattle.journal_check.specs.Reports.{first_fault}

abbrev after_with : ℕ → ℕ → ℕ → ℕ → List Finding → Option (ℕ × Reason) → Report
after_with batches bounded lines optimal findings (Some fault) = Faulty fault.0 fault.1
after_with batches bounded lines optimal findings None =
    Sound (batches + count_by is_batch findings) (bounded + count_by is_bounded findings) (lines + length findings) (optimal + count_by is_optimal findings)

-- the report on findings behind so many batches, those marked bounded, lines and lines marked
-- optimal
abbrev pub report_after : ℕ → ℕ → ℕ → ℕ → List Finding → Report
report_after batches bounded lines optimal findings = after_with batches bounded lines optimal findings (first_fault (lines + 1) findings)
