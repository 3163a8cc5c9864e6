use Rattle.asked_lines.proofs.Bytes.{asking_changes_nothing}
use Rattle.asked_lines.proofs.laws.asking_changes_nothing.Goals as goal

pub returns : goal.returns
returns g c = asking_changes_nothing g.A.AnswersQuestions.asks g.A.LineSteps.step
