use Rattle.portfolio_margin.proofs.NeedCovers.{needs_cover}
use Rattle.portfolio_margin.proofs.laws.needs_cover.Goals as goal

pub returns : goal.returns
returns c = needs_cover
