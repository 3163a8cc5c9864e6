use Rattle.guarded_lines.proofs.AsRun.{guarded_tell_answers}
use Rattle.guarded_lines.proofs.laws.guarded_tell_answers.Goals as goal

pub returns : goal.returns
returns c = guarded_tell_answers
