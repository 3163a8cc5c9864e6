use Rattle.market_laws.proofs.Bounds.{cover_and_measure_bound}
use Rattle.market_laws.proofs.laws.cover_and_measure_bound.Goals as goal

pub returns : goal.returns
returns c = cover_and_measure_bound
