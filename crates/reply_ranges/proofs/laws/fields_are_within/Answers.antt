use Rattle.reply_ranges.proofs.Fields.{fields_are_within}
use Rattle.reply_ranges.proofs.laws.fields_are_within.Goals as goal

pub returns : goal.returns
returns c = fields_are_within
