use Rattle.command_text.proofs.RequestSays.{quote_asked}
use Rattle.command_text.proofs.asking.quote_request.Goals as goal

pub option_request-requires-clause-asked : goal.option_request-requires-clause-asked
option_request-requires-clause-asked c = quote_asked
