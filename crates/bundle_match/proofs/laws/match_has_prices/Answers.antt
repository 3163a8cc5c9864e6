use Rattle.bundle_match.proofs.MatchLaws.{match_has_prices}
use Rattle.bundle_match.proofs.laws.match_has_prices.Goals as goal

pub returns : goal.returns
returns c = match_has_prices
