use Rattle.std.proofs.Common.{rules, ◌≡◌, ◌∙◌}
use Rattle.arithmetic.specs.Sums.{positive_part}
use Rattle.frac.proofs.ShareSteps.{divided_is}
use Rattle.newton_step.proofs.differences.split.Goals as goal

pub returns-clause-above : goal.returns-clause-above
returns-clause-above c =
    let above : c.unsigned_abs.result ≡ positive_part c.args.x.numerator = search rules in
    divided_is c.unsigned_abs.result c.unsigned_abs-below.result _ _ c.divide-quotient.ensures.quotient c.divide-quotient.ensures.rest ∙ above
