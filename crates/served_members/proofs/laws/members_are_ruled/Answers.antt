use Rattle.served_members.proofs.Ruled.{members_are_ruled}
use Rattle.served_members.proofs.laws.members_are_ruled.Goals as goal

pub returns : goal.returns
returns c = members_are_ruled
