use Rattle.cert_check.proofs.Yes.{yes_has_its_measure}
use Rattle.cert_check.proofs.laws.yes_has_its_measure.Goals as goal

pub returns : goal.returns
returns c = yes_has_its_measure
