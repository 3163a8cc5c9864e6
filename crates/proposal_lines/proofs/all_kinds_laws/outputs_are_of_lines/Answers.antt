use Rattle.proposal_lines.proofs.Outputs.{outputs_are_of_lines}
use Rattle.proposal_lines.proofs.all_kinds_laws.outputs_are_of_lines.Goals as goal

pub returns : goal.returns
returns c = outputs_are_of_lines
