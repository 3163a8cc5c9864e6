use Rattle.bundle_match.proofs.Fills.{match_is_the_auction}
use Rattle.bundle_match.proofs.laws.match_is_the_auction.Goals as goal

pub returns : goal.returns
returns c = match_is_the_auction
