use Rattle.std.proofs.Common.{◌+◌, ◌*◌, length}
use Rattle.sign_tree.proofs.closing.+walk.Given as goal

abbrev pub decreases-subtree : goal.decreases-subtree
decreases-subtree l = 2 * length l.left.nodes.now

abbrev pub decreases-split : goal.decreases-split
decreases-split l = 2 * length l.left.nodes.now + 1
