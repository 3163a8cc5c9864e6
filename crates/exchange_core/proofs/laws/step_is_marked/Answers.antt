use Rattle.exchange_core.proofs.Covered.{step_is_marked}
use Rattle.exchange_core.proofs.laws.step_is_marked.Goals as goal

pub returns : goal.returns
returns c = step_is_marked
