use Rattle.command_text.proofs.RequestSays.{try_asked}
use Rattle.command_text.proofs.asking.try_request.Goals as goal

pub option_request-requires-clause-asked : goal.option_request-requires-clause-asked
option_request-requires-clause-asked c = try_asked
