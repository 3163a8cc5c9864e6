use Rattle.std.proofs.Common.{◌≡◌, drop}
use Rattle.arithmetic.specs.Gcd.{gcd}
use Rattle.form.specs.Primitive.{common_divisor}
use Rattle.form.specs.States.{vector_of}
use Rattle.form.proofs.primitives.divisor_of.Given as goal

abbrev pub invariant-loop-i : goal.invariant-loop-i
invariant-loop-i l = gcd l.divisor (common_divisor (drop l.i (vector_of l.state))) ≡ common_divisor (vector_of l.state)
