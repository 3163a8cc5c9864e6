use Rattle.run_equivalence.proofs.RunSteps.{either_way_the_same}
use Rattle.run_equivalence.proofs.whole_laws.either_way_the_same.Goals as goal

pub returns : goal.returns
returns c = either_way_the_same
