use Rattle.master_program.proofs.Read.{covered_is_greatest}
use Rattle.master_program.proofs.optimum.covered_is_greatest.Goals as goal

pub returns : goal.returns
returns c = covered_is_greatest
