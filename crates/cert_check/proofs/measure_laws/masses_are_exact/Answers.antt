use Rattle.cert_check.proofs.MeasureSound.{masses_are_exact}
use Rattle.cert_check.proofs.measure_laws.masses_are_exact.Goals as goal

pub returns : goal.returns
returns c = masses_are_exact
