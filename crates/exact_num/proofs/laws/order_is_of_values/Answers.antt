use Rattle.exact_num.proofs.Exactness.{order_is_of_values}
use Rattle.exact_num.proofs.laws.order_is_of_values.Goals as goal

pub returns : goal.returns
returns c = order_is_of_values
