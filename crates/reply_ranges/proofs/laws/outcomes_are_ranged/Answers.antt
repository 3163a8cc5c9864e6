use Rattle.reply_ranges.proofs.Outcomes.{outcomes_are_ranged}
use Rattle.reply_ranges.proofs.laws.outcomes_are_ranged.Goals as goal

pub returns : goal.returns
returns c = outcomes_are_ranged
