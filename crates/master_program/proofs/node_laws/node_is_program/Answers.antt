use Rattle.master_program.proofs.NodeBounded.{node_is_program}
use Rattle.master_program.proofs.node_laws.node_is_program.Goals as goal

pub returns : goal.returns
returns c = node_is_program
