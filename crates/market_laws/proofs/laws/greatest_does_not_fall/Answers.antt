use Rattle.market_laws.proofs.Limits.{greatest_does_not_fall}
use Rattle.market_laws.proofs.laws.greatest_does_not_fall.Goals as goal

pub returns : goal.returns
returns c = greatest_does_not_fall
