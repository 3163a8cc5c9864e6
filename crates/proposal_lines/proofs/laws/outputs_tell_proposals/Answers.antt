use Rattle.proposal_lines.proofs.Telling.{outputs_tell_proposals}
use Rattle.proposal_lines.proofs.laws.outputs_tell_proposals.Goals as goal

pub returns : goal.returns
returns c = outputs_tell_proposals
