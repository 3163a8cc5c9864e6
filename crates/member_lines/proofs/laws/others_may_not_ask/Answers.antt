use Rattle.member_lines.proofs.MayAsk.{others_may_not_ask}
use Rattle.member_lines.proofs.laws.others_may_not_ask.Goals as goal

pub returns : goal.returns
returns g c = others_may_not_ask g.A.AsksRequests.said_asks
