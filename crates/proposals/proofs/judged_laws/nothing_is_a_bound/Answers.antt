use Rattle.proposals.proofs.NothingProposed.{nothing_is_a_bound}
use Rattle.proposals.proofs.judged_laws.nothing_is_a_bound.Goals as goal

pub returns : goal.returns
returns c = nothing_is_a_bound
