use Rattle.cert_check.proofs.MeasureSound.{bounds_are_exact}
use Rattle.cert_check.proofs.measure_laws.bounds_are_exact.Goals as goal

pub returns : goal.returns
returns c = bounds_are_exact
