use Rattle.master_program.proofs.NodeWider.{rounds_are_the_same}
use Rattle.master_program.proofs.node_laws.rounds_are_the_same.Goals as goal

pub returns : goal.returns
returns c = rounds_are_the_same
