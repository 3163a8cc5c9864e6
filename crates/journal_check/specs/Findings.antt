-- What is found of a line: that it is no sound reply, and why, or what it counts for.
use Rattle.std.specs.Prelude.{ℕ, List, Bool, true, false, Option, Some, None, Ok, Err}
use Rattle.frac.specs.Range.{limit}
use Rattle.cert_check.specs.declared.outcome.Mark.{Mark}
use Rattle.cert_check.specs.declared.outcome.Mark.TheVariants as mark
use Rattle.cert_check.specs.declared.outcome.FailedCondition.{FailedCondition}
use Rattle.cert_check.specs.declared.outcome.FailedCondition.TheVariants as no
use Rattle.cert_check.specs.declared.outcome.Verdict.{Verdict}
use Rattle.cert_check.specs.declared.outcome.Verdict.TheVariants as judgement
use Rattle.reply_print.specs.declared.replies.Reply.{Reply}
use Rattle.reply_print.specs.declared.replies.Reply.TheVariants as reply
use Rattle.reply_text.specs.declared.faults.LineFault.{LineFault}
use Rattle.reply_text.specs.declared.faults.LineFault.TheVariants as fault
use Rattle.reply_text.specs.Reading.{LineRead, reading}
use Rattle.journal_check.specs.declared.reports.Reason.{Reason}
use Rattle.journal_check.specs.declared.reports.Reason.TheVariants.{NotJson, Shape, Number, Range, Spelling, BatchShape, Fill, Cover, Measure, Bound, Wide}
use Rattle.journal_check.specs.declared.findings.Finding.{Finding}
use Rattle.journal_check.specs.declared.findings.Finding.TheVariants.{Plain, Cleared, Bounded, Faulty}
use Rattle.cert_check.specs.Events.{verdict_of}

-- a test of reading that fails; no line reads as want of memory
abbrev pub fault_finding : LineFault → Finding
fault_finding fault.NotJson = Faulty NotJson
fault_finding fault.Shape = Faulty Shape
fault_finding fault.Number = Faulty Number
fault_finding fault.Range = Faulty Range
fault_finding fault.Spelling = Faulty Spelling
fault_finding fault.Memory = Plain

-- a condition of the verdict that is not met
abbrev pub no_reason : FailedCondition → Reason
no_reason no.BatchShape = BatchShape
no_reason no.Fill = Fill
no_reason no.Cover = Cover
no_reason no.Measure = Measure
no_reason no.Bound = Bound

abbrev pub is_marked : Mark → Bool
is_marked (mark.Optimal cover measure) = true
is_marked (mark.Wide w) = false
is_marked mark.Budget = false

-- a cleared batch, by the verdict on it
abbrev pub cleared_finding : Verdict → Mark → Finding
cleared_finding judgement.Yes m = Cleared (is_marked m)
cleared_finding (judgement.No condition) m = Faulty (no_reason condition)
cleared_finding (judgement.Wide w) m = Faulty Wide

-- one that is marked bounded, by the judgement of its proposal and bound
abbrev pub bounded_finding : Verdict → Finding
bounded_finding judgement.Yes = Bounded
bounded_finding (judgement.No condition) = Faulty (no_reason condition)
bounded_finding (judgement.Wide w) = Faulty Wide

abbrev pub reply_finding : Reply → Finding
reply_finding (reply.Cleared number market batch outcome) = cleared_finding (verdict_of limit batch outcome) outcome.mark
reply_finding other = Plain

abbrev pub read_finding : LineRead → Finding
read_finding (Ok pair) = reply_finding pair.1
read_finding (Err f) = fault_finding f

abbrev pub finding_of : List ℕ → Finding
finding_of line = read_finding (reading line)

-- why it is no sound reply
abbrev pub fault_in : Finding → Option Reason
fault_in (Faulty reason) = Some reason
fault_in (Cleared optimal) = None
fault_in Bounded = None
fault_in Plain = None

abbrev pub is_batch : Finding → Bool
is_batch (Faulty reason) = false
is_batch (Cleared optimal) = true
is_batch Bounded = true
is_batch Plain = false

abbrev pub is_optimal : Finding → Bool
is_optimal (Faulty reason) = false
is_optimal (Cleared optimal) = optimal
is_optimal Bounded = false
is_optimal Plain = false

-- marked bounded
abbrev pub is_bounded : Finding → Bool
is_bounded (Faulty reason) = false
is_bounded (Cleared optimal) = false
is_bounded Bounded = true
is_bounded Plain = false
