use Rattle.clearing.proofs.Outcomes.{outcomes_are_measured}
use Rattle.clearing.proofs.laws.outcomes_are_measured.Goals as goal

pub returns : goal.returns
returns c = outcomes_are_measured
