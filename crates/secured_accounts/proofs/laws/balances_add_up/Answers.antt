use Rattle.secured_accounts.proofs.Money.{balances_add_up}
use Rattle.secured_accounts.proofs.laws.balances_add_up.Goals as goal

pub returns : goal.returns
returns c = balances_add_up
