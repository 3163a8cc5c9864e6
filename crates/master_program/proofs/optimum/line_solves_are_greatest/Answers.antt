use Rattle.master_program.proofs.Solves.{line_solves_are_greatest}
use Rattle.master_program.proofs.optimum.line_solves_are_greatest.Goals as goal

pub returns : goal.returns
returns c = line_solves_are_greatest
