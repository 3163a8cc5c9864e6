-- How far a line can be followed down in whole steps until it is at a level.
use Rattle.std.specs.Prelude.{ℕ, ◌*◌, ◌/◌, pos, ◌*ℤ◌}
use Rattle.arithmetic.specs.Sums.{positive_part}
use Rattle.exact_num.specs.Fraction.{Fraction, negated, plain_sum}

-- (value - level) / slope rounded down, and 0 where it is below 0 or the slope is not above 0
abbrev pub whole_steps : Fraction → Fraction → Fraction → ℕ
whole_steps value level slope =
    let above = plain_sum value (negated level) in
    positive_part (above.numerator *ℤ pos slope.denominator) / (above.denominator * positive_part slope.numerator)
