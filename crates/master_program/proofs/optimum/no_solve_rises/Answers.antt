use Rattle.master_program.proofs.Solves.{no_solve_rises}
use Rattle.master_program.proofs.optimum.no_solve_rises.Goals as goal

pub returns : goal.returns
returns c = no_solve_rises
