use Rattle.cert_check.proofs.Certified.{conditions_prove}
use Rattle.cert_check.proofs.laws.conditions_prove.Goals as goal

pub returns : goal.returns
returns c = conditions_prove
