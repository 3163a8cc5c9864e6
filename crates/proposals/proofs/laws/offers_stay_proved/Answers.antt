use Rattle.proposals.proofs.Offers.{offers_stay_proved}
use Rattle.proposals.proofs.laws.offers_stay_proved.Goals as goal

pub returns : goal.returns
returns c = offers_stay_proved
