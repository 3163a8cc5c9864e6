use Rattle.simplex_run.proofs.Wider.{same_with_greater_limit}
use Rattle.simplex_run.proofs.laws.same_with_greater_limit.Goals as goal

pub returns : goal.returns
returns c = same_with_greater_limit
