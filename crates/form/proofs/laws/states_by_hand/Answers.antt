use Rattle.form.proofs.WorkedStates.{states_by_hand}
use Rattle.form.proofs.laws.states_by_hand.Goals as goal

pub returns : goal.returns
returns c = states_by_hand
