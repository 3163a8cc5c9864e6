use Rattle.std.proofs.Common.{ℕ, ℤ, pos, ◌≤ℤ◌, unsigned_abs, ap, ap₂, sym, ◌∙◌, arith, to_z-of_z}
use Rattle.std.proofs.lemmas.Int.{ints}
use Rattle.exact_num.specs.Fraction.{over}
use Rattle.frac.specs.ValueOf.{value_from}
use Rattle.frac.proofs.PartSteps.{value_from-fraction_of, size_is_part}
use Rattle.frac.proofs.frac128.Frac128.from_parts.Goals as goal

pub returns : goal.returns
returns c =
    let above = to_z-of_z c.ranges.numerator in
    let below = to_z-of_z c.ranges.denominator in
    let some : pos 1 ≤ℤ c.args.denominator = omega (arith, ints, c.if-denominator-lt1.false) in
    sym (value_from-fraction_of _) ∙ ap₂ (λ (z : ℤ) (n : ℕ). value_from (over z n)) above (ap unsigned_abs below ∙ size_is_part c.args.denominator some)
