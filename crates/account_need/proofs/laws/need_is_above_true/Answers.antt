use Rattle.account_need.proofs.Accounts.{need_is_above_true}
use Rattle.account_need.proofs.laws.need_is_above_true.Goals as goal

pub returns : goal.returns
returns c = need_is_above_true
