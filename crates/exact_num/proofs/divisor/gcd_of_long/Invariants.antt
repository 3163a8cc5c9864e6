use Rattle.std.proofs.Common.{◌≡◌, ◌+◌, ◌/◌, ◌%◌, ◌^◌}
use Rattle.std.specs.Int.{trailing_zeros}
use mir.Syntax.{w128}
use Rattle.arithmetic.specs.Gcd.{gcd}
use Rattle.exact_num.proofs.divisor.gcd_of_long.Given as goal

-- both stay odd, with the greatest common divisor of the numbers without their twos
abbrev pub invariant-loop-x : goal.invariant-loop-x
invariant-loop-x l = record {
  left : l.x % 2 ≡ 1;
  right : l.y % 2 ≡ 1;
  value : gcd l.x l.y ≡ gcd (l.fn.a / 2 ^ trailing_zeros w128 l.fn.a) (l.fn.b / 2 ^ trailing_zeros w128 l.fn.b);
}

abbrev pub decreases-loop-x : goal.decreases-loop-x
decreases-loop-x l = l.x + l.y
