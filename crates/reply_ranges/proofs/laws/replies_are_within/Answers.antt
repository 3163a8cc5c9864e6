use Rattle.reply_ranges.proofs.Within.{replies_are_within}
use Rattle.reply_ranges.proofs.laws.replies_are_within.Goals as goal

pub returns : goal.returns
returns c = replies_are_within
