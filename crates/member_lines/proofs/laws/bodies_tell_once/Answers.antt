use Rattle.member_lines.proofs.Ending.{bodies_tell_once}
use Rattle.member_lines.proofs.laws.bodies_tell_once.Goals as goal

pub returns : goal.returns
returns g c = bodies_tell_once g.A.AnswersRequests.exchange_in g.A.AnswersRequests.said_step g.A.AnswersRequests.with_opened
