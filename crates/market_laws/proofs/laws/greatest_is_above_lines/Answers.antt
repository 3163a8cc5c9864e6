use Rattle.market_laws.proofs.Slopes.{greatest_is_above_lines}
use Rattle.market_laws.proofs.laws.greatest_is_above_lines.Goals as goal

pub returns : goal.returns
returns c = greatest_is_above_lines
