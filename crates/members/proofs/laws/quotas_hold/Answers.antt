use Rattle.members.proofs.Counting.{quotas_hold}
use Rattle.members.proofs.laws.quotas_hold.Goals as goal

pub returns : goal.returns
returns c = quotas_hold
