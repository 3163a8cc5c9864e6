use Rattle.serve_lines.proofs.Batches.{closed_batches_stay}
use Rattle.serve_lines.proofs.laws.closed_batches_stay.Goals as goal

pub returns : goal.returns
returns c = closed_batches_stay
