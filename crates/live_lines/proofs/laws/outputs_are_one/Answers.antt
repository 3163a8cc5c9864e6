use Rattle.live_lines.proofs.Steps.{one_output}
use Rattle.live_lines.proofs.laws.outputs_are_one.Goals as goal

pub returns : goal.returns
returns g c = λ skips start input text is.
    one_output g.A.LineAnswers.answers g.A.LineSteps.step (λ number old line told new h. (g.met.A.LineSteps.steps number old line told new).0 h) skips start input text is
