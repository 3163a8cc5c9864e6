use Rattle.search_laws.proofs.FewStates.{trees_are_small}
use Rattle.search_laws.proofs.laws.trees_are_small.Goals as goal

pub returns : goal.returns
returns c = trees_are_small
