use Rattle.search_laws.proofs.Sizes.{nodes_are_paid}
use Rattle.search_laws.proofs.laws.nodes_are_paid.Goals as goal

pub returns : goal.returns
returns c = nodes_are_paid
