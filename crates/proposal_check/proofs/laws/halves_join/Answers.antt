use Rattle.proposal_check.proofs.Proposals.{halves_join}
use Rattle.proposal_check.proofs.laws.halves_join.Goals as goal

pub returns : goal.returns
returns c = halves_join
