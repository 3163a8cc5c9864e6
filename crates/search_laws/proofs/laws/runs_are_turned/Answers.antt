use Rattle.search_laws.proofs.Turned.{runs_are_turned}
use Rattle.search_laws.proofs.laws.runs_are_turned.Goals as goal

pub returns : goal.returns
returns c = runs_are_turned
