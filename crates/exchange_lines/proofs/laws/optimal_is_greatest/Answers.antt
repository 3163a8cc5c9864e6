use Rattle.exchange_lines.proofs.Answered.{optimal_is_greatest}
use Rattle.exchange_lines.proofs.laws.optimal_is_greatest.Goals as goal

pub returns : goal.returns
returns c = optimal_is_greatest
