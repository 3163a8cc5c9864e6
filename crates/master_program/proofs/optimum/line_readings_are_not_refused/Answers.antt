use Rattle.master_program.proofs.Verdict.{line_readings_are_not_refused}
use Rattle.master_program.proofs.optimum.line_readings_are_not_refused.Goals as goal

pub returns : goal.returns
returns c = line_readings_are_not_refused
