use Rattle.reply_text.proofs.Collect.{Collects}
use Rattle.proposal_text.specs.CellReading.{cell_from}
use Rattle.proposal_text.proofs.cells_values.nodes_from.Given as goal

abbrev pub invariant-loop-item : goal.invariant-loop-item
invariant-loop-item l = Collects cell_from l.items l.item-index l.nodes.items
