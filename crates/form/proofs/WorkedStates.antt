-- The worked payoffs and primitive vectors, computed from the definitions.
use Rattle.std.proofs.Common.{refl}
use Rattle.exact_num.specs.Fits.{operations}
use Rattle.form.specs.Steps.{payoff_of}
use Rattle.form.specs.Primitive.{primitive_of}
use Rattle.form.specs.Worked.{StatesByHand}

pub states_by_hand : StatesByHand
unfolding operations payoff_of primitive_of
states_by_hand = record { pays = refl; pays_nothing = refl; payoff_is_wide = refl; primitive = refl; multiple_is_wide = refl; entry_is_wide = refl }
