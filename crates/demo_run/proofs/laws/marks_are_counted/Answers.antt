use Rattle.demo_run.proofs.Counting.{marks_are_counted}
use Rattle.demo_run.proofs.laws.marks_are_counted.Goals as goal

pub returns : goal.returns
returns c = marks_are_counted
