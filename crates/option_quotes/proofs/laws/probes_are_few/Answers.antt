use Rattle.option_quotes.proofs.Few.{probes_are_few}
use Rattle.option_quotes.proofs.laws.probes_are_few.Goals as goal

pub returns : goal.returns
returns c = probes_are_few
