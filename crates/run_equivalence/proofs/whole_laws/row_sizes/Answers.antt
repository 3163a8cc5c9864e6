use Rattle.run_equivalence.proofs.IntegerRowSteps.{sizes_bound, sizes_least}
use Rattle.run_equivalence.proofs.whole_laws.row_sizes.Goals as goal

pub returns-clause-bound : goal.returns-clause-bound
returns-clause-bound c = sizes_bound

pub returns-clause-least : goal.returns-clause-least
returns-clause-least c = sizes_least
