use Rattle.std.proofs.Common.{◌∙◌}
use Rattle.exact_num.proofs.DivisorSteps.{ordered_is, high_is, low_is, remainder_is}
use Rattle.exact_num.proofs.divisor.gcd_of_short.Goals as goal

pub returns-then-low-eq0 : goal.returns-then-low-eq0
returns-then-low-eq0 c = high_is _ _ _ _ c.min-low.ensures c.max-high.ensures c.if-low-eq0.true

pub returns-then-high-low : goal.returns-then-high-low
returns-then-high-low c = c.gcd_by_twos.ensures ∙ ordered_is _ _ _ _ c.min-low.ensures c.max-high.ensures

pub returns-then-rest-eq0 : goal.returns-then-rest-eq0
returns-then-rest-eq0 c = low_is _ _ c.if-rest-eq0.true ∙ ordered_is _ _ _ _ c.min-low.ensures c.max-high.ensures

pub returns-else-rest-eq0 : goal.returns-else-rest-eq0
returns-else-rest-eq0 c =
    c.gcd_by_twos-else-rest-eq0.ensures ∙ remainder_is c.min-low.result c.max-high.result ∙ ordered_is _ _ _ _ c.min-low.ensures c.max-high.ensures
