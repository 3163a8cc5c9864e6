use Rattle.std.proofs.Common.{arith}
use Rattle.integer_tableau.proofs.Eliminating.{shared_above, shared_below}
use Rattle.integer_tableau.proofs.divisor.common_with_wide.Goals as goal

pub overflow_cast-result : goal.overflow_cast-result
overflow_cast-result c =
    let low = shared_below c.args.size c.args.found c.gcd.result c.requires c.gcd.ensures in
    let fits = c.ranges.found in
    omega (arith, low, fits)

pub returns-else-size-le-SHORT-clause-above : goal.returns-else-size-le-SHORT-clause-above
returns-else-size-le-SHORT-clause-above c = shared_above c.args.size c.args.found c.gcd.result c.requires c.gcd.ensures

pub returns-else-size-le-SHORT-clause-below : goal.returns-else-size-le-SHORT-clause-below
returns-else-size-le-SHORT-clause-below c = shared_below c.args.size c.args.found c.gcd.result c.requires c.gcd.ensures
