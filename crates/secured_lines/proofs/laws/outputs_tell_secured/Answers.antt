use Rattle.secured_lines.proofs.Outputs.{outputs_tell_secured}
use Rattle.secured_lines.proofs.laws.outputs_tell_secured.Goals as goal

pub returns : goal.returns
returns c = outputs_tell_secured
