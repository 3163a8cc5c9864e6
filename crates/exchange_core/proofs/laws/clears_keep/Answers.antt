use Rattle.exchange_core.proofs.Keeping.{clears_keep}
use Rattle.exchange_core.proofs.laws.clears_keep.Goals as goal

pub returns : goal.returns
returns c = clears_keep
