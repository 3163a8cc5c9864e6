use Rattle.line_cover.proofs.LineStates.{line_states_are_breakpoints}
use Rattle.line_cover.proofs.laws.line_states_are_breakpoints.Goals as goal

pub returns : goal.returns
returns c = line_states_are_breakpoints
