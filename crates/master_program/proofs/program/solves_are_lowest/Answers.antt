use Rattle.master_program.proofs.Lowest.{solves_are_lowest}
use Rattle.master_program.proofs.program.solves_are_lowest.Goals as goal

pub returns : goal.returns
returns c = solves_are_lowest
