use Rattle.option_quotes.proofs.Found.{implied_prices_are_thresholds}
use Rattle.option_quotes.proofs.laws.implied_prices_are_thresholds.Goals as goal

pub returns : goal.returns
returns c = implied_prices_are_thresholds
