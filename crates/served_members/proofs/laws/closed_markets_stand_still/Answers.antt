use Rattle.served_members.proofs.StandingStill.{closed_markets_stand_still}
use Rattle.served_members.proofs.laws.closed_markets_stand_still.Goals as goal

pub returns : goal.returns
returns c = closed_markets_stand_still
