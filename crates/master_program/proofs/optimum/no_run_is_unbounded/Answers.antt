use Rattle.master_program.proofs.Read.{no_run_is_unbounded}
use Rattle.master_program.proofs.optimum.no_run_is_unbounded.Goals as goal

pub returns : goal.returns
returns c = no_run_is_unbounded
