use Rattle.std.proofs.Common.{◌≡◌, ◌+◌, drop}
use Rattle.reply_print.specs.Within.{leaves_of}
use Rattle.reply_guess.proofs.ranges.have_leaves.Given as goal

abbrev pub invariant-loop-node : goal.invariant-loop-node
invariant-loop-node l = leaves_of l.nodes + l.left ≡ leaves_of (drop l.node-index l.nodes) + l.count
