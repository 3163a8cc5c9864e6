use Rattle.served_members.proofs.Serving.{free_lines_tell}
use Rattle.served_members.proofs.laws.free_lines_tell.Goals as goal

pub returns : goal.returns
returns c = free_lines_tell
