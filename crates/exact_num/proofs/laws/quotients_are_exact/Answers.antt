use Rattle.exact_num.proofs.Exactness.{quotients_are_exact}
use Rattle.exact_num.proofs.laws.quotients_are_exact.Goals as goal

pub returns : goal.returns
returns c = quotients_are_exact
