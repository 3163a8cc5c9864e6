use Rattle.std.proofs.Common.{rules}
use Rattle.proposal_text.specs.CellReading.{cell_shape}
use Rattle.proposal_text.proofs.cells_shape.are_cells.Goals as goal

pub returns : goal.returns
returns c = c.is_list.ensures cell_shape (search rules)
