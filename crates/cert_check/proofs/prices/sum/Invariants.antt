use Rattle.std.proofs.Common.{◌≡◌, drop, map}
use Rattle.exact_num.specs.Steps.{fold_steps}
use Rattle.frac.specs.Range.{limit}
use Rattle.frac.specs.Value.{fraction_of}
use Rattle.form.specs.Payoff.{bundle_legs}
use Rattle.cert_check.specs.Points.{point_of}
use Rattle.cert_check.specs.MeasureSums.{add_price, price_of}
use Rattle.cert_check.proofs.prices.sum.Given as goal

abbrev pub invariant-loop-point : goal.invariant-loop-point
invariant-loop-point l =
    price_of limit (bundle_legs l.bundle) (map point_of l.points) ≡ fold_steps (add_price limit (bundle_legs l.bundle)) (fraction_of l.total) (drop l.point-index (map point_of l.points))
