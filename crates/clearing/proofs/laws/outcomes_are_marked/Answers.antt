use Rattle.clearing.proofs.Marks.{outcomes_are_marked}
use Rattle.clearing.proofs.laws.outcomes_are_marked.Goals as goal

pub returns : goal.returns
returns c = outcomes_are_marked
