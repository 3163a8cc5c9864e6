use Rattle.exchange_sessions.proofs.TellLaws.{output_tells_once}
use Rattle.exchange_sessions.proofs.laws.output_tells_once.Goals as goal

pub returns : goal.returns
returns c = output_tells_once
