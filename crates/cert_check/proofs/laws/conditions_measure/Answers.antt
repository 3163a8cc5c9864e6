use Rattle.cert_check.proofs.Certified.{conditions_measure}
use Rattle.cert_check.proofs.laws.conditions_measure.Goals as goal

pub returns : goal.returns
returns c = conditions_measure
