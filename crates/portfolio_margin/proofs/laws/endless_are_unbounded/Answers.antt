use Rattle.portfolio_margin.proofs.LeastMargins.{endless_are_unbounded}
use Rattle.portfolio_margin.proofs.laws.endless_are_unbounded.Goals as goal

pub returns : goal.returns
returns c = endless_are_unbounded
