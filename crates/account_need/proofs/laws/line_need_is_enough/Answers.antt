use Rattle.account_need.proofs.Reached.{line_need_is_enough}
use Rattle.account_need.proofs.laws.line_need_is_enough.Goals as goal

pub returns : goal.returns
returns c = line_need_is_enough
