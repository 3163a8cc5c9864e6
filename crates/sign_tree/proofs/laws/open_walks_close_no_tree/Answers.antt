use Rattle.sign_tree.proofs.Refuted.{open_walks_close_no_tree}
use Rattle.sign_tree.proofs.laws.open_walks_close_no_tree.Goals as goal

pub returns : goal.returns
returns c = open_walks_close_no_tree
