use Rattle.clearing.proofs.Outcomes.{optimal_is_greatest}
use Rattle.clearing.proofs.laws.optimal_is_greatest.Goals as goal

pub returns : goal.returns
returns c = optimal_is_greatest
