use Rattle.proposal_text.proofs.CellLoops.{TakesFrom}
use Rattle.proposal_text.proofs.cells_values.multipliers_from.Given as goal

abbrev pub invariant-loop-item : goal.invariant-loop-item
invariant-loop-item l = TakesFrom l.items l.item-index l.is_open l.class l.multipliers.items
