use Rattle.proposal_check.proofs.WorkedProposals.{proposals_as_worked}
use Rattle.proposal_check.proofs.laws.proposals_as_worked.Goals as goal

pub returns : goal.returns
returns c = proposals_as_worked
