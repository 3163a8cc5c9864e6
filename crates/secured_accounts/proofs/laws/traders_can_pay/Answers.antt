use Rattle.secured_accounts.proofs.Promised.{traders_can_pay}
use Rattle.secured_accounts.proofs.laws.traders_can_pay.Goals as goal

pub returns : goal.returns
returns c = traders_can_pay
