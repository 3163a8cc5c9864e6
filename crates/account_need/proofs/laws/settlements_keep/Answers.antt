use Rattle.account_need.proofs.Settles.{settlements_keep}
use Rattle.account_need.proofs.laws.settlements_keep.Goals as goal

pub returns : goal.returns
returns c = settlements_keep
