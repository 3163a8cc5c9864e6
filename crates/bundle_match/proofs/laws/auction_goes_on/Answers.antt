use Rattle.bundle_match.proofs.Turns.{auction_goes_on}
use Rattle.bundle_match.proofs.laws.auction_goes_on.Goals as goal

pub returns : goal.returns
returns c = auction_goes_on
