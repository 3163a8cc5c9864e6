use Rattle.member_lines.proofs.Passing.{allowed_as_served}
use Rattle.member_lines.proofs.laws.allowed_as_served.Goals as goal

pub returns : goal.returns
returns g c = allowed_as_served g.A.AnswersRequests.exchange_in g.A.AnswersRequests.said_step g.A.AnswersRequests.with_opened
