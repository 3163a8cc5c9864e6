use Rattle.std.proofs.Common.{◌*◌, arith}
use Rattle.std.specs.Prelude.{pos}
use Rattle.exact_num.specs.Fraction.{plain_product, whole}
use Rattle.form.specs.declared.limits.TheConstants.{MAX_QUANTITY}
use Rattle.frac.specs.Value.{fraction_of}
use Rattle.limits.specs.declared.TheConstants.{MAX_GAIN}
use Rattle.settlement.proofs.Quotients.{at_most_more, premium_fits}
use Rattle.settlement.proofs.premiums.premium.Goals as goal

pub rounded_up-requires-clause-few : goal.rounded_up-requires-clause-few
rounded_up-requires-clause-few c =
    let fill = fraction_of c.args.fill.now in
    at_most_more (plain_product fill (whole (pos c.into.result))) (MAX_QUANTITY * c.into.result) MAX_GAIN (omega (arith, c.requires.price, c.into.ensures)) (premium_fits fill.numerator fill.denominator c.into.result c.requires.fill.not_below_zero c.requires.fill.at_most)

pub rounded_down-requires-clause-few : goal.rounded_down-requires-clause-few
rounded_down-requires-clause-few c =
    let fill = fraction_of c.args.fill.now in
    at_most_more (plain_product fill (whole (pos c.into-in-Sell.result))) (MAX_QUANTITY * c.into-in-Sell.result) MAX_GAIN (omega (arith, c.requires.price, c.into-in-Sell.ensures)) (premium_fits fill.numerator fill.denominator c.into-in-Sell.result c.requires.fill.not_below_zero c.requires.fill.at_most)
