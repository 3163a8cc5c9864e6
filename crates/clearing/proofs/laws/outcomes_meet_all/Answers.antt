use Rattle.clearing.proofs.Outcomes.{outcomes_meet_all}
use Rattle.clearing.proofs.laws.outcomes_meet_all.Goals as goal

pub returns : goal.returns
returns c = outcomes_meet_all
