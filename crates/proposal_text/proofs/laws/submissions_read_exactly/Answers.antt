use Rattle.proposal_text.proofs.ReadExactly.{submissions_read_exactly}
use Rattle.proposal_text.proofs.laws.submissions_read_exactly.Goals as goal

pub returns : goal.returns
returns c = submissions_read_exactly
