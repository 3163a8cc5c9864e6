use Rattle.option_quotes.proofs.Walks.{Walks}
use Rattle.option_quotes.proofs.implied.walked.Given as goal

abbrev pub invariant-loop-raising : goal.invariant-loop-raising
invariant-loop-raising l = Walks l.probing.batch.now l.probing.order l.probing.limit l.base l.fn.raising.price l.left l.raising

abbrev pub decreases-loop-raising : goal.decreases-loop-raising
decreases-loop-raising l = l.left
