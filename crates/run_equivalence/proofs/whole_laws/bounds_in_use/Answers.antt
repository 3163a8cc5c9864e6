use Rattle.run_equivalence.proofs.RunSteps.{bounds_in_use}
use Rattle.run_equivalence.proofs.whole_laws.bounds_in_use.Goals as goal

pub returns : goal.returns
returns c = bounds_in_use
