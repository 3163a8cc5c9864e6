use Rattle.master_program.proofs.Verdict.{covered_readings_are_not_refused}
use Rattle.master_program.proofs.optimum.covered_readings_are_not_refused.Goals as goal

pub returns : goal.returns
returns c = covered_readings_are_not_refused
