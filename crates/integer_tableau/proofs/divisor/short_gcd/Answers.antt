use Rattle.std.proofs.Common.{arith}
use Rattle.integer_tableau.proofs.Eliminating.{shared_above, shared_below}
use Rattle.integer_tableau.proofs.divisor.short_gcd.Goals as goal

pub overflow_cast-result : goal.overflow_cast-result
overflow_cast-result c =
    let low = shared_below c.args.a c.args.b c.gcd.result c.requires c.gcd.ensures in
    let fits = c.ranges.b in
    omega (arith, low, fits)

pub returns-clause-above : goal.returns-clause-above
returns-clause-above c = shared_above c.args.a c.args.b c.gcd.result c.requires c.gcd.ensures

pub returns-clause-below : goal.returns-clause-below
returns-clause-below c = shared_below c.args.a c.args.b c.gcd.result c.requires c.gcd.ensures
