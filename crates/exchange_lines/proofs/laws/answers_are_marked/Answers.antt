use Rattle.exchange_lines.proofs.Answered.{answers_are_marked}
use Rattle.exchange_lines.proofs.laws.answers_are_marked.Goals as goal

pub returns : goal.returns
returns c = answers_are_marked
