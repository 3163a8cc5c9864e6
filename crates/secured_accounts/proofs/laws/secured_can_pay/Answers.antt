use Rattle.secured_accounts.proofs.Promised.{secured_can_pay}
use Rattle.secured_accounts.proofs.laws.secured_can_pay.Goals as goal

pub returns : goal.returns
returns c = secured_can_pay
