use Rattle.proposal_lines.proofs.UsingBest.{best_is_used}
use Rattle.proposal_lines.proofs.laws.best_is_used.Goals as goal

pub returns : goal.returns
returns c = best_is_used
