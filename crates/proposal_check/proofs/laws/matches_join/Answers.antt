use Rattle.proposal_check.proofs.Proposals.{matches_join}
use Rattle.proposal_check.proofs.laws.matches_join.Goals as goal

pub returns : goal.returns
returns c = matches_join
