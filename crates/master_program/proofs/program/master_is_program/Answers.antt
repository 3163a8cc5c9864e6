use Rattle.master_program.proofs.Bounded.{master_is_program}
use Rattle.master_program.proofs.program.master_is_program.Goals as goal

pub returns : goal.returns
returns c = master_is_program
