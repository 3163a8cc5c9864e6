use Rattle.master_program.proofs.SolvedWider.{solves_are_the_same}
use Rattle.master_program.proofs.program.solves_are_the_same.Goals as goal

pub returns : goal.returns
returns c = solves_are_the_same
