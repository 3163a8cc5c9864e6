use Rattle.served_members.proofs.Lowering.{free_lines_lower_nothing}
use Rattle.served_members.proofs.laws.free_lines_lower_nothing.Goals as goal

pub returns : goal.returns
returns c = free_lines_lower_nothing
