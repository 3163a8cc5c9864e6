use Rattle.secured_lines.proofs.StayingSafe.{secured_can_pay}
use Rattle.secured_lines.proofs.laws.secured_can_pay.Goals as goal

pub returns : goal.returns
returns c = secured_can_pay
