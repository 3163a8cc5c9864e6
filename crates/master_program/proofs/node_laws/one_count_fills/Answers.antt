use Rattle.master_program.proofs.OneLeg.{one_count_fills}
use Rattle.master_program.proofs.node_laws.one_count_fills.Goals as goal

pub returns : goal.returns
returns c = one_count_fills
