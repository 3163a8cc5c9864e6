use Rattle.cert_check.proofs.Yes.{yes_on_optimal_proves}
use Rattle.cert_check.proofs.laws.yes_on_optimal_proves.Goals as goal

pub returns : goal.returns
returns c = yes_on_optimal_proves
