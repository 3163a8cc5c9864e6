use Rattle.proposal_check.proofs.Proposals.{optimal_is_bounded}
use Rattle.proposal_check.proofs.laws.optimal_is_bounded.Goals as goal

pub returns : goal.returns
returns c = optimal_is_bounded
