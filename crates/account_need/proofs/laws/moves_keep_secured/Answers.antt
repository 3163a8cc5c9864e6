use Rattle.account_need.proofs.Secured.{moves_keep_secured}
use Rattle.account_need.proofs.laws.moves_keep_secured.Goals as goal

pub returns : goal.returns
returns c = moves_keep_secured
