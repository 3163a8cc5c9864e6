use Rattle.reply_ranges.proofs.Accepted.{runs_are_accepted}
use Rattle.reply_ranges.proofs.laws.runs_are_accepted.Goals as goal

pub returns : goal.returns
returns c = runs_are_accepted
