use Rattle.secured_lines.proofs.ClosedBest.{closed_batches_stay}
use Rattle.secured_lines.proofs.laws.closed_batches_stay.Goals as goal

pub returns : goal.returns
returns c = closed_batches_stay
