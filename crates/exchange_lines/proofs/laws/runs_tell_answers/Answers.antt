use Rattle.exchange_lines.proofs.AsRun.{runs_tell_answers}
use Rattle.exchange_lines.proofs.laws.runs_tell_answers.Goals as goal

pub returns : goal.returns
returns c = runs_tell_answers
