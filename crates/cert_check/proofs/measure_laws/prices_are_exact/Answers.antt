use Rattle.cert_check.proofs.MeasureSound.{prices_are_exact}
use Rattle.cert_check.proofs.measure_laws.prices_are_exact.Goals as goal

pub returns : goal.returns
returns c = prices_are_exact
