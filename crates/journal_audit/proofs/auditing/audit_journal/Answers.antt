use Rattle.std.proofs.Common.{sym, subst}
use Rattle.std.proofs.lemmas.Result.{IfOk-weaker}
use Rattle.journal_check.specs.JournalLines.{lines_of}
use Rattle.journal_audit.specs.Laws.{AuditSays}
use Rattle.journal_audit.proofs.AuditSays.{audits_say}
use Rattle.journal_audit.proofs.auditing.audit_journal.Goals as goal

pub returns-clause-says : goal.returns-clause-says
returns-clause-says c =
    let bytes = c.args.bytes.now in
    IfOk-weaker c.report_by.result _ _ (λ r is. subst (AuditSays (lines_of bytes)) (sym is) (audits_say bytes)) c.report_by.ensures
