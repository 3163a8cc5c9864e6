use Rattle.search_laws.proofs.FewStates.{rounds_are_paid}
use Rattle.search_laws.proofs.laws.rounds_are_paid.Goals as goal

pub returns : goal.returns
returns c = rounds_are_paid
