use Rattle.account_need.proofs.Losses.{cancels_keep}
use Rattle.account_need.proofs.laws.cancels_keep.Goals as goal

pub returns : goal.returns
returns c = cancels_keep
