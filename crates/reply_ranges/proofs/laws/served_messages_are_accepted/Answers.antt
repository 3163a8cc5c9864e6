use Rattle.reply_ranges.proofs.Audited.{served_messages_are_accepted}
use Rattle.reply_ranges.proofs.laws.served_messages_are_accepted.Goals as goal

pub returns : goal.returns
returns c = served_messages_are_accepted
