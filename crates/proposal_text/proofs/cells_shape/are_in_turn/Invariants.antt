use Rattle.proposal_text.proofs.CellLoops.{TurnsFrom}
use Rattle.proposal_text.proofs.cells_shape.are_in_turn.Given as goal

abbrev pub invariant-loop-item : goal.invariant-loop-item
invariant-loop-item l = TurnsFrom l.items l.item-index l.is_class
