use Rattle.std.proofs.Common.{map}
use Rattle.arithmetic.proofs.Lists.{item_first}
use Rattle.exact_num.proofs.Loops.{goes_on, stops}
use Rattle.frac.specs.Range.{limit}
use Rattle.frac.specs.Value.{fraction_of}
use Rattle.cert_check.specs.Points.{point_of}
use Rattle.cert_check.specs.MeasureSums.{add_gain}
use Rattle.cert_check.proofs.bounds.sum.Goals as goal

pub returns-in_err-total : goal.returns-in_err-total
returns-in_err-total c =
    stops fraction_of (add_gain limit (map point_of c.args.m.now.points)) c.loop-order.total c.add_gain.result c.from_residual.result _ _ _ _ _
    (item_first c.args.orders.now c.loop-order.order-index c.order-item.result c.loop-order-test.true c.order-item.is) c.loop-order.invariant c.add_gain.ensures c.in_err-total.was c.from_residual.ensures.1

pub loop-order-preserved : goal.loop-order-preserved
loop-order-preserved c =
    goes_on fraction_of (add_gain limit (map point_of c.args.m.now.points)) c.loop-order.total c.in_ok-total.total c.add_gain.result _ _ _ _
    (item_first c.args.orders.now c.loop-order.order-index c.order-item.result c.loop-order-test.true c.order-item.is) c.loop-order.invariant c.add_gain.ensures c.in_ok-total.was
