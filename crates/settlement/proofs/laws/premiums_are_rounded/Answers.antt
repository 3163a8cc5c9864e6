use Rattle.settlement.proofs.Quotients.{premiums_are_rounded}
use Rattle.settlement.proofs.laws.premiums_are_rounded.Goals as goal

pub returns : goal.returns
returns c = premiums_are_rounded
