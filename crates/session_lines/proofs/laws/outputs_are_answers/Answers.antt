use Rattle.session_lines.proofs.SessionOutputs.{outputs_are_answers}
use Rattle.session_lines.proofs.laws.outputs_are_answers.Goals as goal

pub returns : goal.returns
returns g c = outputs_are_answers g.A.LineSteps.step
