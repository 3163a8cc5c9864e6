use Rattle.simplex_run.proofs.Optima.{ends_are_as_said}
use Rattle.simplex_run.proofs.laws.runs_end_as_said.Goals as goal

pub returns : goal.returns
returns c = ends_are_as_said
