use Rattle.members.proofs.OwnerLists.{owners_stay}
use Rattle.members.proofs.laws.owners_stay.Goals as goal

pub returns : goal.returns
returns c = owners_stay
