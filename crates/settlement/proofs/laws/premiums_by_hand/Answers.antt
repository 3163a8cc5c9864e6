use Rattle.std.proofs.Common.{refl}
use Rattle.settlement.proofs.laws.premiums_by_hand.Goals as goal

pub returns : goal.returns
returns c = record { bought = refl; sold = refl; sold_higher = refl; bought_part = refl }
