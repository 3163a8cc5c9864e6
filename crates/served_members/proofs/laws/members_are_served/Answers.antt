use Rattle.served_members.proofs.Serving.{members_are_served}
use Rattle.served_members.proofs.laws.members_are_served.Goals as goal

pub returns : goal.returns
returns c = members_are_served
