use Rattle.account_need.proofs.Clears.{clears_keep}
use Rattle.account_need.proofs.laws.clears_keep.Goals as goal

pub returns : goal.returns
returns c = clears_keep
