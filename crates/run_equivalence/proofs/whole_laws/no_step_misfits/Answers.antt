use Rattle.run_equivalence.proofs.RunSteps.{no_step_misfits}
use Rattle.run_equivalence.proofs.whole_laws.no_step_misfits.Goals as goal

pub returns : goal.returns
returns c = no_step_misfits
