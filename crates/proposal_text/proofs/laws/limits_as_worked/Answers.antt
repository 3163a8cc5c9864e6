use Rattle.std.proofs.Common.{refl}
use Rattle.proposal_text.proofs.laws.limits_as_worked.Goals as goal

pub returns : goal.returns
returns c = record { tree_nodes = refl; points = refl; classes = refl; cells = refl; listed = refl }
