-- The report on a journal, and its text.
use Rattle.std.specs.Prelude.{ℕ, ◌+◌, List, [], ◌∷◌, ◌++◌, length, Option, Some, None, codes, decimal, count_by, map}
use Rattle.journal_check.specs.declared.reports.Reason.{Reason}
use Rattle.journal_check.specs.declared.reports.Reason.TheVariants.{NotJson, Shape, Number, Range, Spelling, BatchShape, Fill, Cover, Measure, Bound, Wide}
use Rattle.journal_check.specs.declared.reports.Report.{Report}
use Rattle.journal_check.specs.declared.reports.Report.TheVariants.{Sound, Faulty}
use Rattle.journal_check.specs.declared.findings.Finding.{Finding}
use Rattle.journal_check.specs.JournalLines.{lines_of}
use Rattle.journal_check.specs.Findings.{finding_of, fault_in, is_batch, is_bounded, is_optimal}

-- the fault of a line of this number, or else that of a later one
abbrev pub fault_or : ℕ → Option Reason → Option (ℕ × Reason) → Option (ℕ × Reason)
fault_or number (Some reason) later = Some (number, reason)
fault_or number None later = later

-- the first line that is no sound reply, and why; the lines are numbered from this number on
abbrev pub first_fault : ℕ → List Finding → Option (ℕ × Reason)
first_fault number [] = None
first_fault number (finding ∷ findings) = fault_or number (fault_in finding) (first_fault (number + 1) findings)

-- the numbers of cleared lines, of those marked bounded, of lines and of lines marked optimal
abbrev pub sound_report : List Finding → Report
sound_report findings = Sound (count_by is_batch findings) (count_by is_bounded findings) (length findings) (count_by is_optimal findings)

abbrev pub report_with : List Finding → Option (ℕ × Reason) → Report
report_with findings (Some fault) = Faulty fault.0 fault.1
report_with findings None = sound_report findings

-- the first fault, or else the counts
abbrev pub report_on : List Finding → Report
report_on findings = report_with findings (first_fault 1 findings)

-- by what its lines are found to be
abbrev pub report_by : (List ℕ → Finding) → List ℕ → Report
report_by finding bytes = report_on (map finding (lines_of bytes))

abbrev pub report_of : List ℕ → Report
report_of bytes = report_by finding_of bytes

abbrev pub reason_word : Reason → List ℕ
reason_word NotJson = codes "NotJson"
reason_word Shape = codes "Shape"
reason_word Number = codes "Number"
reason_word Range = codes "Range"
reason_word Spelling = codes "Spelling"
reason_word BatchShape = codes "BatchShape"
reason_word Fill = codes "Fill"
reason_word Cover = codes "Cover"
reason_word Measure = codes "Measure"
reason_word Bound = codes "Bound"
reason_word Wide = codes "Wide"

abbrev pub faulty_text : ℕ → Reason → List ℕ
faulty_text line reason = codes "{\"line\":" ++ (decimal line ++ (codes ",\"reason\":\"" ++ (reason_word reason ++ codes "\",\"verdict\":\"no\"}")))

abbrev pub report_text : Report → List ℕ
report_text (Sound batches bounded lines optimal) =
    codes "{\"batches\":" ++ (decimal batches
    ++ (codes ",\"lines\":" ++ (decimal lines
    ++ (codes ",\"optimal\":" ++ (decimal optimal ++ codes ",\"verdict\":\"yes\"}")))))
report_text (Faulty line reason) = faulty_text line reason

-- how many batches there are, and how many of them are marked bounded
abbrev pub batches_text : ℕ → ℕ → List ℕ
batches_text batches bounded = codes "{\"batches\":" ++ (decimal batches ++ (codes ",\"bounded\":" ++ decimal bounded))

-- how many lines there are, and how many are marked optimal
abbrev pub lines_text : ℕ → ℕ → List ℕ
lines_text lines optimal = codes ",\"lines\":" ++ (decimal lines ++ (codes ",\"optimal\":" ++ (decimal optimal ++ codes ",\"verdict\":\"yes\"}")))

-- with the number of lines that are marked bounded
abbrev pub audit_text : Report → List ℕ
audit_text (Sound batches bounded lines optimal) = batches_text batches bounded ++ lines_text lines optimal
audit_text (Faulty line reason) = faulty_text line reason
