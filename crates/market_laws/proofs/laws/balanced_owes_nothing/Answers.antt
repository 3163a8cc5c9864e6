use Rattle.market_laws.proofs.Balance.{balanced_owes_nothing}
use Rattle.market_laws.proofs.laws.balanced_owes_nothing.Goals as goal

pub returns : goal.returns
returns c = balanced_owes_nothing
