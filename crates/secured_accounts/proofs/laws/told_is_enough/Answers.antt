use Rattle.secured_accounts.proofs.ToldNeeds.{told_is_enough}
use Rattle.secured_accounts.proofs.laws.told_is_enough.Goals as goal

pub returns : goal.returns
returns c = told_is_enough
