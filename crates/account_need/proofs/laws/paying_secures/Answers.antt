use Rattle.account_need.proofs.Accounts.{paying_secures}
use Rattle.account_need.proofs.laws.paying_secures.Goals as goal

pub returns : goal.returns
returns c = paying_secures
