use Rattle.exact_num.proofs.Fractions.{each_is_its_amount}
use Rattle.exact_num.proofs.laws.each_is_its_amount.Goals as goal

pub returns : goal.returns
returns c = each_is_its_amount
