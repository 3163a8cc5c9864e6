use Rattle.session_lines.proofs.SessionOutputs.{outputs_tell_once}
use Rattle.session_lines.proofs.laws.outputs_tell_once.Goals as goal

pub returns : goal.returns
returns g c = outputs_tell_once g.A.LineSteps.step
