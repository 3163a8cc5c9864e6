use Rattle.account_need.proofs.Secured.{secured_can_pay}
use Rattle.account_need.proofs.laws.secured_can_pay.Goals as goal

pub returns : goal.returns
returns c = secured_can_pay
