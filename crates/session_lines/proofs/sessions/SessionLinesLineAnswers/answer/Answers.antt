use Rattle.std.proofs.Common.{arith}
use Rattle.session_lines.proofs.sessions.SessionLinesLineAnswers.answer.Goals as goal

pub answer_message-requires-clause-few : goal.answer_message-requires-clause-few
answer_message-requires-clause-few g c = omega (arith, c.requires.few, c.requires.next.0)

pub answer_message-requires-clause-next : goal.answer_message-requires-clause-next
answer_message-requires-clause-next g c = c.requires.next.1
