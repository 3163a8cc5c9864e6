use Rattle.search_laws.proofs.FewStates.{rounds_have_few_states}
use Rattle.search_laws.proofs.laws.rounds_have_few_states.Goals as goal

pub returns : goal.returns
returns c = rounds_have_few_states
