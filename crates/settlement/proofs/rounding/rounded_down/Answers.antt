use Rattle.std.proofs.Common.{◌≡◌, rules, arith}
use Rattle.form.specs.Vector.{positive_part}
use Rattle.frac.specs.Value.{fraction_of}
use Rattle.limits.specs.declared.TheConstants.{MAX_GAIN}
use Rattle.settlement.proofs.Quotients.{down_fits, up_fits}
use Rattle.settlement.proofs.rounding.rounded_down.Goals as goal

pub mul_div_floor-requires-clause-share_fits : goal.mul_div_floor-requires-clause-share_fits
mul_div_floor-requires-clause-share_fits c =
    let fill = fraction_of c.args.fill.now in
    let above : c.unsigned_abs.result ≡ positive_part fill.numerator = search rules in
    let below : c.unsigned_abs-2.result ≡ fill.denominator = search rules in
    let small = up_fits fill.numerator c.unsigned_abs.result c.unsigned_abs-2.result c.args.ticks MAX_GAIN (omega (arith, c.args.fill.now.lowest.positive)) above (rw below c.requires.few) c.requires.not_below_zero in
    omega (arith, small)

pub returns-clause-fits : goal.returns-clause-fits
returns-clause-fits c =
    let fill = fraction_of c.args.fill.now in
    let above : c.unsigned_abs.result ≡ positive_part fill.numerator = search rules in
    let below : c.unsigned_abs-2.result ≡ fill.denominator = search rules in
    let small = up_fits fill.numerator c.unsigned_abs.result c.unsigned_abs-2.result c.args.ticks MAX_GAIN (omega (arith, c.args.fill.now.lowest.positive)) above (rw below c.requires.few) c.requires.not_below_zero in
    omega (arith, down_fits _ _ _ small)

pub overflow_cast-result : goal.overflow_cast-result
overflow_cast-result c = record { fits = omega (arith, returns-clause-fits c) }
