use Rattle.exact_num.proofs.WorkedOperators.{operators_at_the_limit}
use Rattle.exact_num.proofs.laws.operators_at_the_limit.Goals as goal

pub returns : goal.returns
returns c = operators_at_the_limit
