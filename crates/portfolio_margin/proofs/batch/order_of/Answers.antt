use Rattle.std.proofs.Common.{arith}
use Rattle.frac.specs.Value.{fraction_of}
use Rattle.portfolio_margin.proofs.Quantities.{held_is, rounded_small}
use Rattle.portfolio_margin.proofs.batch.order_of.Goals as goal

pub premium-rounded-requires-clause-fill : goal.premium-rounded-requires-clause-fill
premium-rounded-requires-clause-fill c = held_is c.args.position.now.bundle (fraction_of c.args.position.now.fill) c.requires

pub overflow_cast-result : goal.overflow_cast-result
overflow_cast-result c =
    let fill = fraction_of c.args.position.now.fill in
    let small = rounded_small fill c.args.position.now.fill.lowest.positive (held_is c.args.position.now.bundle fill c.requires) in
    omega (arith, c.premium-rounded.ensures.premium, small)
