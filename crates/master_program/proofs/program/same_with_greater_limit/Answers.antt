use Rattle.master_program.proofs.Wider.{same_with_greater_limit}
use Rattle.master_program.proofs.program.same_with_greater_limit.Goals as goal

pub returns : goal.returns
returns c = same_with_greater_limit
