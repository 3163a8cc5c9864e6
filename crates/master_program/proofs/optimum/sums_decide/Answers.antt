use Rattle.master_program.proofs.VerdictSums.{sums_decide}
use Rattle.master_program.proofs.optimum.sums_decide.Goals as goal

pub returns : goal.returns
returns c = sums_decide
