use Rattle.run_equivalence.proofs.RunSteps.{runs_agree}
use Rattle.run_equivalence.proofs.whole_laws.runs_agree.Goals as goal

pub returns : goal.returns
returns c = runs_agree
