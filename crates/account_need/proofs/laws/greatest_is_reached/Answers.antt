use Rattle.account_need.proofs.Reached.{greatest_is_reached}
use Rattle.account_need.proofs.laws.greatest_is_reached.Goals as goal

pub returns : goal.returns
returns c = greatest_is_reached
