use Rattle.std.proofs.Common.{rules, ◌≡◌, ◌+◌, ◌*◌, ◌≤ℤ◌, pos, min, ap, ◌∙◌}
use Rattle.arithmetic.specs.Sums.{positive_part}
use Rattle.frac.specs.Value.{fraction_of}
use Rattle.newton_step.proofs.Wholes.{steps_of}
use Rattle.newton_step.proofs.steps.whole_steps.Goals as goal

pub returns : goal.returns
returns c =
    let value = fraction_of c.args.value in
    let level = fraction_of c.args.level in
    let slope = fraction_of c.args.slope in
    let number = c.scaled_difference-above_level.result in
    let x = c.split.result in
    let y = c.split-2.result in
    let factor = c.unsigned_abs-factor.result in
    let divisor = c.unsigned_abs.result in
    let above : divisor ≡ positive_part slope.numerator = search rules in
    let below : factor ≡ slope.denominator = search rules in
    let value_fits : pos 0 ≤ℤ value.numerator = search rules in
    let slope_fits : pos 0 ≤ℤ slope.numerator = search rules in
    let steps = steps_of value level slope (number.quotient * factor + number.rest) (x.whole * x.below + x.above) (y.whole * y.below + y.above) x.below y.below divisor factor
    c.split.ensures.above c.split-2.ensures.above above c.split.ensures.below c.split-2.ensures.below below value_fits c.requires slope_fits
    c.scaled_difference-above_level.ensures.down c.scaled_difference-above_level.ensures.next in
    c.quotient_within.ensures ∙ ap (λ n. min n c.args.most) steps
