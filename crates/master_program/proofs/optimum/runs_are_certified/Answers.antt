use Rattle.master_program.proofs.Read.{runs_are_certified}
use Rattle.master_program.proofs.optimum.runs_are_certified.Goals as goal

pub returns : goal.returns
returns c = runs_are_certified
