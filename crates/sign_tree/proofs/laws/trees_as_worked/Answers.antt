use Rattle.sign_tree.proofs.WorkedTrees.{trees_as_worked}
use Rattle.sign_tree.proofs.laws.trees_as_worked.Goals as goal

pub returns : goal.returns
returns c = trees_as_worked
