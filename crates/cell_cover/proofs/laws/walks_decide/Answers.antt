use Rattle.cell_cover.proofs.Decided.{walks_decide}
use Rattle.cell_cover.proofs.laws.walks_decide.Goals as goal

pub returns : goal.returns
returns c = walks_decide
