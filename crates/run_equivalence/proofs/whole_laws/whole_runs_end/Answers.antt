use Rattle.run_equivalence.proofs.SomeLimit.{whole_runs_end}
use Rattle.run_equivalence.proofs.whole_laws.whole_runs_end.Goals as goal

pub returns : goal.returns
returns c = whole_runs_end
