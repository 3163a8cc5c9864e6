use Rattle.cell_cover.proofs.OneWay.{cells_read_one_way}
use Rattle.cell_cover.proofs.laws.cells_read_one_way.Goals as goal

pub returns : goal.returns
returns c = cells_read_one_way
