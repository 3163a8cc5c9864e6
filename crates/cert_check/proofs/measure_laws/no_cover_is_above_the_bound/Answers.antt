use Rattle.cert_check.proofs.MeasureDuality.{no_cover_is_above_the_bound}
use Rattle.cert_check.proofs.measure_laws.no_cover_is_above_the_bound.Goals as goal

pub returns : goal.returns
returns c = no_cover_is_above_the_bound
