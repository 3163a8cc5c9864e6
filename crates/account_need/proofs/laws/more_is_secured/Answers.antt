use Rattle.account_need.proofs.Secured.{more_is_secured}
use Rattle.account_need.proofs.laws.more_is_secured.Goals as goal

pub returns : goal.returns
returns c = more_is_secured
