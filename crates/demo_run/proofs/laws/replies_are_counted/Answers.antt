use Rattle.demo_run.proofs.Counting.{replies_are_counted}
use Rattle.demo_run.proofs.laws.replies_are_counted.Goals as goal

pub returns : goal.returns
returns c = replies_are_counted
