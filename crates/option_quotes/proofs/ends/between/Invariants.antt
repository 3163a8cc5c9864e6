use Rattle.option_quotes.specs.Probes.{gap}
use Rattle.option_quotes.proofs.Middles.{Narrows}
use Rattle.option_quotes.proofs.ends.between.Given as goal

abbrev pub invariant-loop-alloc : goal.invariant-loop-alloc
invariant-loop-alloc l = Narrows l.probing.batch.now l.probing.order l.probing.limit l.base l.fn.ends.raising.price l.fn.ends.other.price l.ends

abbrev pub decreases-loop-alloc : goal.decreases-loop-alloc
decreases-loop-alloc l = gap l.ends.raising.price l.ends.other.price
