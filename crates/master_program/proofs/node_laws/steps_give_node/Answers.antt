use Rattle.master_program.proofs.NodeSteps.{steps_give_node}
use Rattle.master_program.proofs.node_laws.steps_give_node.Goals as goal

pub returns : goal.returns
returns c = steps_give_node
