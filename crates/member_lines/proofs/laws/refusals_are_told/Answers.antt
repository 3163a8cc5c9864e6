use Rattle.member_lines.proofs.Passing.{refusals_are_told}
use Rattle.member_lines.proofs.laws.refusals_are_told.Goals as goal

pub returns : goal.returns
returns g c = refusals_are_told g.A.AnswersRequests.exchange_in g.A.AnswersRequests.said_step g.A.AnswersRequests.with_opened
