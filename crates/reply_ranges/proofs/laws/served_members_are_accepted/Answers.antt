use Rattle.reply_ranges.proofs.Audited.{served_members_are_accepted}
use Rattle.reply_ranges.proofs.laws.served_members_are_accepted.Goals as goal

pub returns : goal.returns
returns c = served_members_are_accepted
