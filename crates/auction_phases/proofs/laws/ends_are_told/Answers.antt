use Rattle.auction_phases.proofs.Ends.{ends_are_told}
use Rattle.auction_phases.proofs.laws.ends_are_told.Goals as goal

pub returns : goal.returns
returns c = ends_are_told
