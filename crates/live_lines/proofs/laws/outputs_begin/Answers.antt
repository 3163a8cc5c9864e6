use Rattle.live_lines.proofs.Steps.{lines_begin}
use Rattle.live_lines.proofs.laws.outputs_begin.Goals as goal

pub returns : goal.returns
returns g c = λ skips start lines more within. lines_begin g.A.LineSteps.step skips start lines more within
