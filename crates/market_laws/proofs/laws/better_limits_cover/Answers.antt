use Rattle.market_laws.proofs.Limits.{better_limits_cover}
use Rattle.market_laws.proofs.laws.better_limits_cover.Goals as goal

pub returns : goal.returns
returns c = better_limits_cover
