use Rattle.members.proofs.LiveQuota.{live_orders_are_few}
use Rattle.members.proofs.laws.live_orders_are_few.Goals as goal

pub returns : goal.returns
returns c = live_orders_are_few
