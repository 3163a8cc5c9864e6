use Rattle.simplex_run.proofs.WorkedPrograms.{worked_programs_end}
use Rattle.simplex_run.proofs.laws.worked_programs_end.Goals as goal

pub returns : goal.returns
returns c = worked_programs_end
