use Rattle.settlement.proofs.Gains.{gains_are_rounded_down}
use Rattle.settlement.proofs.laws.gains_are_rounded_down.Goals as goal

pub returns : goal.returns
returns c = gains_are_rounded_down
