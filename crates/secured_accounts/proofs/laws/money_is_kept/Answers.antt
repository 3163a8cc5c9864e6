use Rattle.secured_accounts.proofs.Money.{money_is_kept}
use Rattle.secured_accounts.proofs.laws.money_is_kept.Goals as goal

pub returns : goal.returns
returns c = money_is_kept
