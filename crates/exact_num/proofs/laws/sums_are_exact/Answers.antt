use Rattle.exact_num.proofs.Exactness.{sums_are_exact}
use Rattle.exact_num.proofs.laws.sums_are_exact.Goals as goal

pub returns : goal.returns
returns c = sums_are_exact
