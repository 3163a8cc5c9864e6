use Rattle.cell_cover.proofs.WorkedCells.{cells_as_worked}
use Rattle.cell_cover.proofs.laws.cells_as_worked.Goals as goal

pub returns : goal.returns
returns c = cells_as_worked
