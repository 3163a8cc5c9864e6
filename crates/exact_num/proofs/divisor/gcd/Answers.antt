use Rattle.std.proofs.Common.{◌∙◌}
use Rattle.exact_num.proofs.DivisorSteps.{ordered_is, high_is}
use Rattle.exact_num.proofs.divisor.gcd.Goals as goal

pub returns-then-low-eq0 : goal.returns-then-low-eq0
returns-then-low-eq0 c = high_is _ _ _ _ c.min-low.ensures c.max-high.ensures c.if-low-eq0.true

pub returns-then-low-le-SHORT : goal.returns-then-low-le-SHORT
returns-then-low-le-SHORT c = c.gcd_with_short.ensures ∙ ordered_is _ _ _ _ c.min-low.ensures c.max-high.ensures

pub returns-else-low-le-SHORT : goal.returns-else-low-le-SHORT
returns-else-low-le-SHORT c = c.gcd_of_long.ensures ∙ ordered_is _ _ _ _ c.min-low.ensures c.max-high.ensures
