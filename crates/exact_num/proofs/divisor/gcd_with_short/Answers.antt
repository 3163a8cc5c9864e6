use Rattle.std.proofs.Common.{◌∙◌}
use Rattle.exact_num.proofs.DivisorSteps.{remainder_is}
use Rattle.exact_num.proofs.divisor.gcd_with_short.Goals as goal

pub returns : goal.returns
returns c = c.gcd_of_short.ensures ∙ remainder_is c.args.low c.args.high
