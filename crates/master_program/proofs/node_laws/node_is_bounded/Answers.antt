use Rattle.master_program.proofs.NodeBounded.{node_is_bounded}
use Rattle.master_program.proofs.node_laws.node_is_bounded.Goals as goal

pub returns : goal.returns
returns c = node_is_bounded
