use Rattle.market_laws.proofs.Legs.{signed_sums_agree}
use Rattle.market_laws.proofs.laws.signed_sums_agree.Goals as goal

pub returns : goal.returns
returns c = signed_sums_agree
