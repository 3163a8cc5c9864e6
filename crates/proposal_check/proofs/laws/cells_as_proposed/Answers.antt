use Rattle.proposal_check.proofs.WorkedProposals.{cells_as_proposed}
use Rattle.proposal_check.proofs.laws.cells_as_proposed.Goals as goal

pub returns : goal.returns
returns c = cells_as_proposed
