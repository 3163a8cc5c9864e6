use Rattle.run_equivalence.proofs.IntegerRowSteps.{content_in_order}
use Rattle.run_equivalence.proofs.whole_laws.content_in_order.Goals as goal

pub returns : goal.returns
returns c = content_in_order
