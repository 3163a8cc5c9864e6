use Rattle.member_lines.proofs.Ruling.{lines_move_by_rule}
use Rattle.member_lines.proofs.laws.lines_move_by_rule.Goals as goal

pub returns : goal.returns
returns g c = lines_move_by_rule g.A.AnswersRequests.exchange_in g.A.AnswersRequests.said_step g.A.AnswersRequests.with_opened g.A.AnswersRequests.sound
