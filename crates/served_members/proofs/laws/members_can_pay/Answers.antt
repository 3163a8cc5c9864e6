use Rattle.served_members.proofs.Paying.{members_can_pay}
use Rattle.served_members.proofs.laws.members_can_pay.Goals as goal

pub returns : goal.returns
returns c = members_can_pay
