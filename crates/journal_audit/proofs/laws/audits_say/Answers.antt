use Rattle.journal_audit.proofs.AuditSays.{audits_say}
use Rattle.journal_audit.proofs.laws.audits_say.Goals as goal

pub returns : goal.returns
returns c = audits_say
