use Rattle.portfolio_margin.proofs.LeastMargins.{margins_are_least}
use Rattle.portfolio_margin.proofs.laws.margins_are_least.Goals as goal

pub returns : goal.returns
returns c = margins_are_least
