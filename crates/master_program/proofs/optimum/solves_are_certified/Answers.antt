use Rattle.master_program.proofs.Solves.{solves_are_certified}
use Rattle.master_program.proofs.optimum.solves_are_certified.Goals as goal

pub returns : goal.returns
returns c = solves_are_certified
