use Rattle.std.proofs.Common.{rules, ◌+◌, ◌*◌, ◌^◌, ◌<◌, ap, ◌∙◌}
use Rattle.frac.proofs.ShareSteps.{divided_is}
use Rattle.newton_step.proofs.Wholes.{capped, quotient_by_parts}
use Rattle.newton_step.proofs.steps.quotient_within.Goals as goal

pub returns : goal.returns
returns c =
    let number = c.args.number in
    let q = c.divide-wholes.result in
    let p = c.divided_product-part.result in
    let wholes = divided_is number.quotient c.args.divisor q.quotient q.rest c.divide-wholes.ensures.quotient c.divide-wholes.ensures.rest in
    let parts = quotient_by_parts number.quotient number.rest c.args.factor c.args.divisor q.quotient q.rest p.quotient p.rest c.requires.divisor.0 wholes c.divided_product-part.ensures.value in
    let small : c.args.most < 2 ^ 64 = search rules in
    capped (q.quotient * c.args.factor) p.quotient c.divide-last.result.quotient _ _ _ _ c.args.most _ c.saturating_mul.ensures c.saturating_add.ensures c.saturating_add-quotient.ensures small
    (ap (λ n. q.quotient * c.args.factor + p.quotient + n) c.divide-last.ensures.quotient ∙ parts)
    c.min.ensures
