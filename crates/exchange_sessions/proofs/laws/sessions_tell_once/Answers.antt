use Rattle.exchange_sessions.proofs.TellLaws.{sessions_tell_once}
use Rattle.exchange_sessions.proofs.laws.sessions_tell_once.Goals as goal

pub returns : goal.returns
returns c = sessions_tell_once
