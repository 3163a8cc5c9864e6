use Rattle.reply_ranges.proofs.Audited.{served_lines_are_accepted}
use Rattle.reply_ranges.proofs.laws.served_lines_are_accepted.Goals as goal

pub returns : goal.returns
returns c = served_lines_are_accepted
