use Rattle.sign_tree.proofs.Sound.{walks_close_trees}
use Rattle.sign_tree.proofs.laws.walks_close_trees.Goals as goal

pub returns : goal.returns
returns c = walks_close_trees
