use Rattle.master_program.proofs.Read.{readings_are_certified}
use Rattle.master_program.proofs.optimum.readings_are_certified.Goals as goal

pub returns : goal.returns
returns c = readings_are_certified
