use Rattle.master_program.proofs.Bounded.{master_is_bounded}
use Rattle.master_program.proofs.program.master_is_bounded.Goals as goal

pub returns : goal.returns
returns c = master_is_bounded
