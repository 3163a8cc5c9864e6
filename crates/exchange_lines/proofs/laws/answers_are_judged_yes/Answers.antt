use Rattle.exchange_lines.proofs.Answered.{answers_are_judged_yes}
use Rattle.exchange_lines.proofs.laws.answers_are_judged_yes.Goals as goal

pub returns : goal.returns
returns c = answers_are_judged_yes
