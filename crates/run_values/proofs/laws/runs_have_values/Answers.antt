use Rattle.run_values.proofs.Solutions.{runs_have_values}
use Rattle.run_values.proofs.laws.runs_have_values.Goals as goal

pub returns : goal.returns
returns c = runs_have_values
