use Rattle.proposal_text.proofs.CellLoops.{RisesFrom}
use Rattle.proposal_text.proofs.cells_values.classes_from.Given as goal

abbrev pub invariant-loop-item : goal.invariant-loop-item
invariant-loop-item l = RisesFrom l.items l.item-index l.last l.classes.items
