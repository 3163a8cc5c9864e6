use Rattle.clearing.proofs.Yes.{outcomes_are_judged_yes}
use Rattle.clearing.proofs.laws.outcomes_are_judged_yes.Goals as goal

pub returns : goal.returns
returns c = outcomes_are_judged_yes
