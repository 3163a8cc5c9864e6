use Rattle.cert_check.proofs.WorkedVerdicts.{verdicts_as_worked}
use Rattle.cert_check.proofs.laws.verdicts_as_worked.Goals as goal

pub returns : goal.returns
returns c = verdicts_as_worked
