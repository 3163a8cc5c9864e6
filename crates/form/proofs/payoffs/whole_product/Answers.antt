use Rattle.std.proofs.Common.{◌≡◌, FitsSigned, w64, rules, arith, sym}
use Rattle.form.proofs.WholeSteps.{short_product, short_product_is, short_product_read}
use Rattle.form.proofs.payoffs.whole_product.Goals as goal

pub returns-in-Ok-clause-product : goal.returns-in-Ok-clause-product
returns-in-Ok-clause-product c =
    let b : c.in-Ok.b ≡ c.args.b = search rules in
    let fits : FitsSigned w64 c.in-Ok.b = search rules in
    rw (short_product_read _ _ c.args.a c.in-Ok.b c.ranges.a fits c.from.ensures c.from-in-Ok.ensures, ← b) (sym (short_product_is c.args.a c.in-Ok.b c.ranges.a fits))

pub returns-in-Ok-clause-fits : goal.returns-in-Ok-clause-fits
returns-in-Ok-clause-fits c =
    let fits : FitsSigned w64 c.in-Ok.b = search rules in
    rw (short_product_read _ _ c.args.a c.in-Ok.b c.ranges.a fits c.from.ensures c.from-in-Ok.ensures) (omega (arith, short_product c.args.a c.in-Ok.b c.ranges.a fits))
