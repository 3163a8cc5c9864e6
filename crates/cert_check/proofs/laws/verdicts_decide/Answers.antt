use Rattle.cert_check.proofs.Decided.{verdicts_decide}
use Rattle.cert_check.proofs.laws.verdicts_decide.Goals as goal

pub returns : goal.returns
returns c = verdicts_decide
