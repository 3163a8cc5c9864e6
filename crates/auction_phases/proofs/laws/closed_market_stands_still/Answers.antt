use Rattle.auction_phases.proofs.StandingStill.{closed_market_stands_still}
use Rattle.auction_phases.proofs.laws.closed_market_stands_still.Goals as goal

pub returns : goal.returns
returns c = closed_market_stands_still
