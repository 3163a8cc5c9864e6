use Rattle.std.proofs.Common.{to_z-of_z, lit≤}
use Rattle.exact_num.proofs.Values.{whole_is_lowest}
use Rattle.frac.proofs.frac64.Frac64.whole.Goals as goal

pub invariant_of-result : goal.invariant_of-result
invariant_of-result c = record { lowest = whole_is_lowest _; within = record { above = rw (to_z-of_z c.ranges.v) c.requires; below = lit≤ tt } }
