use Rattle.proposal_check.proofs.Proposals.{proposals_are_decided}
use Rattle.proposal_check.proofs.laws.proposals_are_decided.Goals as goal

pub returns : goal.returns
returns c = proposals_are_decided
