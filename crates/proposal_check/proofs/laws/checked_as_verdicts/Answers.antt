use Rattle.proposal_check.proofs.Proposals.{checked_as_verdicts}
use Rattle.proposal_check.proofs.laws.checked_as_verdicts.Goals as goal

pub returns : goal.returns
returns c = checked_as_verdicts
