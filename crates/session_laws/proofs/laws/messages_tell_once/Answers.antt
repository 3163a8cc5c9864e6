use Rattle.session_laws.proofs.Taken.{messages_tell_once}
use Rattle.session_laws.proofs.laws.messages_tell_once.Goals as goal

pub returns : goal.returns
returns g c = messages_tell_once g.A.AnswersMessages.body_step
