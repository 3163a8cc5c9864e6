use Rattle.proposal_text.proofs.ReadExactly.{replies_read_exactly}
use Rattle.proposal_text.proofs.laws.replies_read_exactly.Goals as goal

pub returns : goal.returns
returns c = replies_read_exactly
