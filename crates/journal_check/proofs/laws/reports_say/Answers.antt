use Rattle.journal_check.proofs.ReportsSay.{reports_say}
use Rattle.journal_check.proofs.laws.reports_say.Goals as goal

pub returns : goal.returns
returns c = reports_say
