use Rattle.master_program.proofs.WorkedRounds.{legs_of_bundles_are_built}
use Rattle.master_program.proofs.node_laws.bundle_nodes_are_built.Goals as goal

pub returns : goal.returns
returns c = legs_of_bundles_are_built
