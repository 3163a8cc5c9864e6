use Rattle.served_members.proofs.Once.{members_tell_once}
use Rattle.served_members.proofs.laws.members_tell_once.Goals as goal

pub returns : goal.returns
returns c = members_tell_once
