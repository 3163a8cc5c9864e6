use Rattle.simplex_run.proofs.Ended.{runs_end}
use Rattle.simplex_run.proofs.laws.runs_end.Goals as goal

pub returns : goal.returns
returns c = runs_end
