use Rattle.exact_num.proofs.Exactness.{differences_are_exact}
use Rattle.exact_num.proofs.laws.differences_are_exact.Goals as goal

pub returns : goal.returns
returns c = differences_are_exact
