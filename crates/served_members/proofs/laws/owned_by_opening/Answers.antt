use Rattle.served_members.proofs.Owners.{owned_by_opening}
use Rattle.served_members.proofs.laws.owned_by_opening.Goals as goal

pub returns : goal.returns
returns c = owned_by_opening
