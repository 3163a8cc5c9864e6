use Rattle.line_cover.proofs.Counted.{line_states_are_few}
use Rattle.line_cover.proofs.laws.line_states_are_few.Goals as goal

pub returns : goal.returns
returns c = line_states_are_few
