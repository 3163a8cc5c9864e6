use Rattle.secured_lines.proofs.StayingSafe.{traders_can_pay}
use Rattle.secured_lines.proofs.laws.traders_can_pay.Goals as goal

pub returns : goal.returns
returns c = traders_can_pay
