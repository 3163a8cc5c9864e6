use Rattle.cell_cover.proofs.NodeWalks.{walks_tree}
use Rattle.cell_cover.proofs.laws.walks_by_nodes.Goals as goal

pub returns : goal.returns
returns c = walks_tree
