use Rattle.guarded_lines.proofs.AsRun.{guarded_answer_as_run}
use Rattle.guarded_lines.proofs.laws.guarded_answer_as_run.Goals as goal

pub returns : goal.returns
returns c = guarded_answer_as_run
