use Rattle.std.proofs.Common.{rules}
use Rattle.frac.specs.Range.{IsSmall}
use Rattle.frac.specs.Value.{fraction_of}
use Rattle.frac.proofs.SmallSteps.{small_less_answers}
use Rattle.frac.proofs.frac128.Frac128Exact.less_product_within.Goals as goal

pub returns-then-is_small-3 : goal.returns-then-is_small-3
returns-then-is_small-3 c =
    let p : IsSmall (fraction_of c.args.self) = search rules in
    let q : IsSmall (fraction_of c.args.a) = search rules in
    let r : IsSmall (fraction_of c.args.b) = search rules in
    small_less_answers (fraction_of c.args.self) (fraction_of c.args.a) (fraction_of c.args.b) (fraction_of c.small_less_product.result) p q r c.small_less_product.ensures
