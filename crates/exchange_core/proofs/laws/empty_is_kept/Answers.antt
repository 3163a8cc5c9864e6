use Rattle.exchange_core.proofs.Keeping.{empty_is_kept}
use Rattle.exchange_core.proofs.laws.empty_is_kept.Goals as goal

pub returns : goal.returns
returns c = empty_is_kept
