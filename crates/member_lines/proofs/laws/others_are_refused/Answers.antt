use Rattle.member_lines.proofs.Telling.{others_are_refused}
use Rattle.member_lines.proofs.laws.others_are_refused.Goals as goal

pub returns : goal.returns
returns g c = others_are_refused g.A.AnswersRequests.exchange_in g.A.AnswersRequests.said_step g.A.AnswersRequests.with_opened
