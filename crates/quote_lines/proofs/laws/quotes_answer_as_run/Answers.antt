use Rattle.quote_lines.proofs.AsRun.{quotes_answer_as_run}
use Rattle.quote_lines.proofs.laws.quotes_answer_as_run.Goals as goal

pub returns : goal.returns
returns c = quotes_answer_as_run
