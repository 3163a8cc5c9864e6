use Rattle.frac.proofs.Equality.{equal_below, unequal_above}
use Rattle.frac.proofs.frac128.Frac128PartialEq.eq.Goals as goal

pub returns-then-self-other : goal.returns-then-self-other
returns-then-self-other c = equal_below _ _ c.args.self.now.lowest c.args.other.now.lowest c.args.self.now.above_fits c.args.other.now.above_fits c.if-self-other.true

pub returns-else-self-other : goal.returns-else-self-other
returns-else-self-other c = unequal_above _ _ c.args.self.now.lowest c.args.other.now.lowest c.if-self-other.false
