use Rattle.exchange_core.proofs.Keeping.{step_keeps}
use Rattle.exchange_core.proofs.laws.step_keeps.Goals as goal

pub returns : goal.returns
returns c = step_keeps
