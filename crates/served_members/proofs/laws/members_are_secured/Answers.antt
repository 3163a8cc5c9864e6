use Rattle.served_members.proofs.Secured.{members_are_secured}
use Rattle.served_members.proofs.laws.members_are_secured.Goals as goal

pub returns : goal.returns
returns c = members_are_secured
