use Rattle.secured_lines.proofs.Without.{answers_are_alike}
use Rattle.secured_lines.proofs.laws.answers_are_alike.Goals as goal

pub returns : goal.returns
returns c = answers_are_alike
