use Rattle.quote_lines.proofs.AsRun.{quotes_tell_answers}
use Rattle.quote_lines.proofs.laws.quotes_tell_answers.Goals as goal

pub returns : goal.returns
returns c = quotes_tell_answers
