use Rattle.command_text.proofs.RequestSays.{price_asked}
use Rattle.command_text.proofs.asking.price_request.Goals as goal

pub option_request-requires-clause-asked : goal.option_request-requires-clause-asked
option_request-requires-clause-asked c = price_asked
