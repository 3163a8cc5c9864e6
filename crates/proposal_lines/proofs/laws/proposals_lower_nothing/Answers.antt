use Rattle.proposal_lines.proofs.LaterClears.{proposals_lower_nothing}
use Rattle.proposal_lines.proofs.laws.proposals_lower_nothing.Goals as goal

pub returns : goal.returns
returns c = proposals_lower_nothing
