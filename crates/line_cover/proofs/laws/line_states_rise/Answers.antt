use Rattle.line_cover.proofs.LineStates.{line_states_rise}
use Rattle.line_cover.proofs.laws.line_states_rise.Goals as goal

pub returns : goal.returns
returns c = line_states_rise
