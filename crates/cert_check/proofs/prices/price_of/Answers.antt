use Rattle.std.proofs.Common.{map, rules}
use Rattle.frac.specs.Range.{limit}
use Rattle.form.specs.Payoff.{bundle_legs}
use Rattle.cert_check.specs.MeasureLaws.{IsPrice}
use Rattle.cert_check.specs.Points.{point_of}
use Rattle.cert_check.specs.MeasureSums.{price_of}
use Rattle.cert_check.proofs.MeasureSound.{of_value, prices_are_exact, weights_lowest}
use Rattle.cert_check.proofs.prices.price_of.Goals as goal

pub returns-clause-exact : goal.returns-clause-exact
returns-clause-exact c =
    let bundle = bundle_legs c.args.bundle.now in
    let points = map point_of c.args.m.now.points in
    of_value (IsPrice bundle points) (price_of limit bundle points) c.sum.result (search rules)
    (λ price h. prices_are_exact limit bundle points price (weights_lowest c.args.m.now.points) h)
