use Rattle.account_need.proofs.Reached.{enough_is_above_true}
use Rattle.account_need.proofs.laws.enough_is_above_true.Goals as goal

pub returns : goal.returns
returns c = enough_is_above_true
