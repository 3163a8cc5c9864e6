use Rattle.member_lines.proofs.Ruling.{quotas_are_kept}
use Rattle.member_lines.proofs.laws.quotas_are_kept.Goals as goal

pub returns : goal.returns
returns g c = quotas_are_kept g.A.AnswersRequests.exchange_in g.A.AnswersRequests.said_step g.A.AnswersRequests.with_opened g.A.AnswersRequests.sound
