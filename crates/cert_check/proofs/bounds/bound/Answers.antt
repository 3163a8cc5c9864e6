use Rattle.std.proofs.Common.{map, rules}
use Rattle.frac.specs.Range.{limit}
use Rattle.clearing_model.specs.Certificate.{IsFractionMeasure, MeasureProves}
use Rattle.market_laws.specs.Bounds.{NoCoverIsAbove}
use Rattle.cert_check.specs.Points.{point_of}
use Rattle.cert_check.specs.MeasureSums.{bound_of}
use Rattle.cert_check.proofs.MeasureSound.{of_value, bounds_are_exact, weights_lowest}
use Rattle.cert_check.proofs.MeasureDuality.{no_cover_is_above_the_bound}
use Rattle.cert_check.proofs.bounds.bound.Goals as goal

pub returns-clause-exact : goal.returns-clause-exact
returns-clause-exact c =
    let orders = c.args.batch.now.orders in
    let points = map point_of c.args.m.now.points in
    of_value (MeasureProves orders points) (bound_of limit orders points) c.sum.result (search rules)
    (λ bound h. (bounds_are_exact limit orders points bound (weights_lowest c.args.m.now.points) h).0)

pub returns-clause-duality : goal.returns-clause-duality
returns-clause-duality c =
    let n = c.args.batch.now.underlyings in
    let orders = c.args.batch.now.orders in
    let points = map point_of c.args.m.now.points in
    of_value (λ bound. IsFractionMeasure n points → NoCoverIsAbove n orders bound) (bound_of limit orders points) c.sum.result (search rules)
    (λ bound h measure. no_cover_is_above_the_bound limit n orders points bound (weights_lowest c.args.m.now.points) measure h)
