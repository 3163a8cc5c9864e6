use Rattle.std.proofs.Common.{◌∙◌, sym, unsigned_abs}
use Rattle.std.proofs.lemmas.Result.{err_from_is_err_and}
use Rattle.fraction_tableau.proofs.Skips.{zero_less, product_stops}
use Rattle.fraction_tableau.proofs.entries.less_product.Goals as goal

pub returns-in_err-product : goal.returns-in_err-product
returns-in_err-product g c =
    let p = err_from_is_err_and c.from_residual.result c.from_residual.ensures.1 in
    let value = g.N.Exact.fraction in
    rw (p.1, p.2) (product_stops value (unsigned_abs g.N.Exact.LIMIT) (value c.args.factor) (value c.args.entry) (value c.args.pivot) c.mul.result _ c.mul.ensures c.in_err-product.was)

pub returns-in_ok-product : goal.returns-in_ok-product
returns-in_ok-product g c =
    let laws = g.met.N.Exact in
    let value = g.N.Exact.fraction in
    let x = c.args.entry in
    zero_less value (unsigned_abs g.N.Exact.LIMIT) (value c.args.factor) (value x) (value c.args.pivot) c.mul.result c.in_ok-product.product c.neg.result
    (λ a. record { lowest = laws.lowest a; above = laws.numerator_fits a; below = laws.denominator_fits a }) (record { lowest = laws.lowest x; above = laws.numerator_fits x; below = laws.denominator_fits x })
    (sym c.is_zero.ensures ∙ c.if-is_zero.true) c.mul.ensures c.in_ok-product.was c.neg.ensures
