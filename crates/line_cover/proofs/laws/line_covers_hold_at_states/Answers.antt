use Rattle.line_cover.proofs.LineStates.{line_covers_hold_at_states}
use Rattle.line_cover.proofs.laws.line_covers_hold_at_states.Goals as goal

pub returns : goal.returns
returns c = line_covers_hold_at_states
