use Rattle.cell_cover.proofs.Regrouped.{closed_cells_hold}
use Rattle.cell_cover.proofs.laws.closed_cells_hold.Goals as goal

pub returns : goal.returns
returns c = closed_cells_hold
