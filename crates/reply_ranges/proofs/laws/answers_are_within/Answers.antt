use Rattle.reply_ranges.proofs.Within.{answers_are_within}
use Rattle.reply_ranges.proofs.laws.answers_are_within.Goals as goal

pub returns : goal.returns
returns c = answers_are_within
