use Rattle.option_quotes.proofs.Thresholds.{quotes_are_thresholds}
use Rattle.option_quotes.proofs.laws.quotes_are_thresholds.Goals as goal

pub returns : goal.returns
returns c = quotes_are_thresholds
