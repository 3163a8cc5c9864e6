use Rattle.proposal_lines.proofs.Without.{without_proposals}
use Rattle.proposal_lines.proofs.laws.without_proposals.Goals as goal

pub returns : goal.returns
returns c = without_proposals
