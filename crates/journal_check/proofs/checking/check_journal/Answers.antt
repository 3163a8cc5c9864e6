use Rattle.std.proofs.Common.{sym, subst}
use Rattle.std.proofs.lemmas.Result.{IfOk-weaker}
use Rattle.journal_check.specs.JournalLines.{lines_of}
use Rattle.journal_check.specs.Laws.{Says}
use Rattle.journal_check.proofs.ReportsSay.{reports_say}
use Rattle.journal_check.proofs.checking.check_journal.Goals as goal

pub returns-clause-says : goal.returns-clause-says
returns-clause-says c =
    let bytes = c.args.bytes.now in
    IfOk-weaker c.report_by.result _ _ (λ r is. subst (Says (lines_of bytes)) (sym is) (reports_say bytes)) c.report_by.ensures
