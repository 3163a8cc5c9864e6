use Rattle.clearing.proofs.Outcomes.{outcomes_are_covered}
use Rattle.clearing.proofs.laws.outcomes_are_covered.Goals as goal

pub returns : goal.returns
returns c = outcomes_are_covered
