use Rattle.account_need.proofs.Rounding.{rounded_owes_more}
use Rattle.account_need.proofs.laws.rounded_owes_more.Goals as goal

pub returns : goal.returns
returns c = rounded_owes_more
