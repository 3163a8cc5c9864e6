use Rattle.market_laws.proofs.Slopes.{fills_cover_along_lines}
use Rattle.market_laws.proofs.laws.fills_cover_along_lines.Goals as goal

pub returns : goal.returns
returns c = fills_cover_along_lines
