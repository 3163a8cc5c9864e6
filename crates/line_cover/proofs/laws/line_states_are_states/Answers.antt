use Rattle.line_cover.proofs.LineStates.{line_states_are_states}
use Rattle.line_cover.proofs.laws.line_states_are_states.Goals as goal

pub returns : goal.returns
returns c = line_states_are_states
