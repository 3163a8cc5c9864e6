use Rattle.proposal_lines.proofs.Outputs.{outputs_tell}
use Rattle.proposal_lines.proofs.all_kinds_laws.outputs_tell.Goals as goal

pub returns : goal.returns
returns c = outputs_tell
