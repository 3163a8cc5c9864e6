use Rattle.master_program.proofs.NodeWider.{searches_are_the_same}
use Rattle.master_program.proofs.node_laws.searches_are_the_same.Goals as goal

pub returns : goal.returns
returns c = searches_are_the_same
