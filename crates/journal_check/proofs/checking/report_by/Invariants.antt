use Rattle.std.proofs.Common.{◌≡◌, ◌+◌, ◌≤◌, length, map}
use Rattle.journal_check.specs.JournalLines.{lines_of}
use Rattle.journal_check.specs.Reports.{report_by}
use Rattle.journal_check.proofs.Counting.{report_after}
use Rattle.journal_check.proofs.checking.report_by.Given as goal

abbrev pub invariant-loop-rest : goal.invariant-loop-rest
invariant-loop-rest g l =
    let finding = g.J.LineJudge.finding in
    record {
      report : report_by finding l.bytes ≡ report_after l.batches l.bounded l.lines l.optimal (map finding (lines_of l.rest));
      counted : l.lines + length l.rest ≤ length l.bytes;
      batches : l.batches ≤ l.lines;
      bounded : l.bounded ≤ l.lines;
      optimal : l.optimal ≤ l.lines;
    }

abbrev pub decreases-loop-rest : goal.decreases-loop-rest
decreases-loop-rest g l = length l.rest
