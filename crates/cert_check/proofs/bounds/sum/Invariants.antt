use Rattle.std.proofs.Common.{◌≡◌, drop, map}
use Rattle.exact_num.specs.Steps.{fold_steps}
use Rattle.frac.specs.Range.{limit}
use Rattle.frac.specs.Value.{fraction_of}
use Rattle.cert_check.specs.Points.{point_of}
use Rattle.cert_check.specs.MeasureSums.{add_gain, bound_of}
use Rattle.cert_check.proofs.bounds.sum.Given as goal

abbrev pub invariant-loop-order : goal.invariant-loop-order
invariant-loop-order l =
    bound_of limit l.orders (map point_of l.m.points) ≡ fold_steps (add_gain limit (map point_of l.m.points)) (fraction_of l.total) (drop l.order-index l.orders)
