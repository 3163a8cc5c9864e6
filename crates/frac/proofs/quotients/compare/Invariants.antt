use Rattle.std.proofs.Common.{◌≡◌, ◌+◌, ◌*◌, ◌<◌}
use Rattle.std.specs.Ordering.{nat_cmp}
use Rattle.frac.proofs.quotients.compare.Given as goal

-- the order that is asked for stays, and neither denominator is 0
abbrev pub invariant-loop-left : goal.invariant-loop-left
invariant-loop-left l = record {
  left : 0 < l.b;
  right : 0 < l.d;
  order : nat_cmp (l.a * l.d) (l.c * l.b) ≡ nat_cmp (l.fn.a * l.fn.d) (l.fn.c * l.fn.b);
}

abbrev pub decreases-loop-left : goal.decreases-loop-left
decreases-loop-left l = l.b + l.d
