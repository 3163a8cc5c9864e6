use Rattle.line_cover.proofs.LineStates.{lines_close_at_states}
use Rattle.line_cover.proofs.laws.lines_close_at_states.Goals as goal

pub returns : goal.returns
returns c = lines_close_at_states
