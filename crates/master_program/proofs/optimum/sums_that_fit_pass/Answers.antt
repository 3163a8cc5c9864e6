use Rattle.master_program.proofs.VerdictSums.{sums_that_fit_pass}
use Rattle.master_program.proofs.optimum.sums_that_fit_pass.Goals as goal

pub returns : goal.returns
returns c = sums_that_fit_pass
