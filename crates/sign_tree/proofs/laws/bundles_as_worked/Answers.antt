use Rattle.sign_tree.proofs.WorkedTrees.{bundles_as_worked}
use Rattle.sign_tree.proofs.laws.bundles_as_worked.Goals as goal

pub returns : goal.returns
returns c = bundles_as_worked
