use Rattle.member_lines.proofs.Ruling.{live_orders_stay_few}
use Rattle.member_lines.proofs.laws.live_orders_stay_few.Goals as goal

pub returns : goal.returns
returns g c = live_orders_stay_few g.A.AnswersRequests.exchange_in g.A.AnswersRequests.said_step g.A.AnswersRequests.with_opened g.A.AnswersRequests.sound
