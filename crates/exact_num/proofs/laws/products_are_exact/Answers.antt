use Rattle.exact_num.proofs.Exactness.{products_are_exact}
use Rattle.exact_num.proofs.laws.products_are_exact.Goals as goal

pub returns : goal.returns
returns c = products_are_exact
