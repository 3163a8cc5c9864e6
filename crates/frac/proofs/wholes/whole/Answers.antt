use Rattle.std.proofs.Common.{to_z-of_z, lit<, arith}
use Rattle.exact_num.proofs.Values.{whole_is_lowest}
use Rattle.frac.proofs.wholes.whole.Goals as goal

pub invariant_of-result : goal.invariant_of-result
invariant_of-result c = record { lowest = whole_is_lowest _; above_fits = rw (to_z-of_z c.ranges.v) (omega (arith, c.requires)); below_fits = lit< tt }
