use Rattle.bundle_match.proofs.WorkedBatches.{batches_by_hand}
use Rattle.bundle_match.proofs.laws.batches_by_hand.Goals as goal

pub returns : goal.returns
returns c = batches_by_hand
