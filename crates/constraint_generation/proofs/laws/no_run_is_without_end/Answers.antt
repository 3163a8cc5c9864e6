use Rattle.constraint_generation.proofs.JointRuns.{no_run_is_without_end}
use Rattle.constraint_generation.proofs.laws.no_run_is_without_end.Goals as goal

pub returns : goal.returns
returns c = no_run_is_without_end
