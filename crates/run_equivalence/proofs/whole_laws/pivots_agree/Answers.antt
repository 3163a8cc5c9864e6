use Rattle.run_equivalence.proofs.PivotSteps.{pivots_agree}
use Rattle.run_equivalence.proofs.whole_laws.pivots_agree.Goals as goal

pub returns : goal.returns
returns c = pivots_agree
