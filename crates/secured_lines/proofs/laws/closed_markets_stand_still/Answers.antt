use Rattle.secured_lines.proofs.StandingStill.{closed_markets_stand_still}
use Rattle.secured_lines.proofs.laws.closed_markets_stand_still.Goals as goal

pub returns : goal.returns
returns c = closed_markets_stand_still
