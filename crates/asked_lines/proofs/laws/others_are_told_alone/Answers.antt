use Rattle.asked_lines.proofs.Apart.{others_are_told_alone}
use Rattle.asked_lines.proofs.laws.others_are_told_alone.Goals as goal

pub returns : goal.returns
returns g c = others_are_told_alone g.A.AnswersQuestions.asks g.A.LineSteps.step
