use Rattle.proposal_check.proofs.WorkedProposals.{matches_as_worked}
use Rattle.proposal_check.proofs.laws.matches_as_worked.Goals as goal

pub returns : goal.returns
returns c = matches_as_worked
