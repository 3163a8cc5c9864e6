use Rattle.proposals.proofs.Offers.{offers_lose_nothing}
use Rattle.proposals.proofs.laws.offers_lose_nothing.Goals as goal

pub returns : goal.returns
returns c = offers_lose_nothing
