use Rattle.market_laws.proofs.Slopes.{greatest_is_convex}
use Rattle.market_laws.proofs.laws.greatest_is_convex.Goals as goal

pub returns : goal.returns
returns c = greatest_is_convex
