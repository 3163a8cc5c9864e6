use Rattle.secured_lines.proofs.ClosedBest.{best_of_closed_is_used}
use Rattle.secured_lines.proofs.laws.best_of_closed_is_used.Goals as goal

pub returns : goal.returns
returns c = best_of_closed_is_used
