use Rattle.account_need.proofs.Convex.{greatest_bounds}
use Rattle.account_need.proofs.laws.greatest_bounds.Goals as goal

pub returns : goal.returns
returns c = greatest_bounds
