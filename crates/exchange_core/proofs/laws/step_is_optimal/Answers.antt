use Rattle.exchange_core.proofs.Covered.{step_is_optimal}
use Rattle.exchange_core.proofs.laws.step_is_optimal.Goals as goal

pub returns : goal.returns
returns c = step_is_optimal
