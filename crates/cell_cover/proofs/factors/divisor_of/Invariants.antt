use Rattle.std.proofs.Common.{◌≡◌, drop, map}
use Rattle.std.specs.Prelude.{unsigned_abs}
use Rattle.arithmetic.specs.Gcd.{gcd}
use Rattle.form.specs.Payoff.{option_of}
use Rattle.form.specs.Primitive.{common_divisor}
use Rattle.cell_cover.proofs.factors.divisor_of.Given as goal

abbrev pub invariant-loop-i : goal.invariant-loop-i
invariant-loop-i l = gcd l.divisor (common_divisor (drop l.i (map unsigned_abs (option_of l.form)))) ≡ common_divisor (map unsigned_abs (option_of l.form))
