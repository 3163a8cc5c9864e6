use Rattle.members.proofs.OwnerLists.{refused_changes_nothing}
use Rattle.members.proofs.laws.refused_changes_nothing.Goals as goal

pub returns : goal.returns
returns c = refused_changes_nothing
