use Rattle.std.proofs.Common.{◌≡◌, ◌+◌, drop}
use Rattle.proposal_text.specs.CellRanges.{listed}
use Rattle.proposal_text.specs.declared.cells.TheConstants.{MAX_LISTED}
use Rattle.proposal_text.proofs.cells.are_lists_short.Given as goal

abbrev pub invariant-loop-node : goal.invariant-loop-node
invariant-loop-node l = l.left + listed l.nodes ≡ MAX_LISTED + listed (drop l.node-index l.nodes)
