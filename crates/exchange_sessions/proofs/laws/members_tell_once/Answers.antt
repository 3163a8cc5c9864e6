use Rattle.exchange_sessions.proofs.TellLaws.{members_tell_beside}
use Rattle.exchange_sessions.proofs.laws.members_tell_once.Goals as goal

pub returns : goal.returns
returns c = members_tell_beside
