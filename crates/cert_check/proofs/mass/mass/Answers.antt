use Rattle.arithmetic.proofs.Lists.{drop_map}
use Rattle.exact_num.proofs.Loops.{goes_on, stops}
use Rattle.frac.specs.Range.{limit}
use Rattle.frac.specs.Value.{fraction_of}
use Rattle.cert_check.specs.Points.{point_of}
use Rattle.cert_check.specs.MeasureSums.{add_mass}
use Rattle.cert_check.proofs.mass.mass.Goals as goal

pub returns-in_err-total : goal.returns-in_err-total
returns-in_err-total c =
    stops fraction_of (add_mass limit) c.loop-point.total c.add_mass.result c.from_residual.result _ _ _ _ _ (drop_map point_of c.args.points.now c.loop-point.point-index c.point-item.result c.loop-point-test.true c.point-item.is)
    c.loop-point.invariant c.add_mass.ensures c.in_err-total.was c.from_residual.ensures.1

pub loop-point-preserved : goal.loop-point-preserved
loop-point-preserved c =
    goes_on fraction_of (add_mass limit) c.loop-point.total c.in_ok-total.total c.add_mass.result _ _ _ _ (drop_map point_of c.args.points.now c.loop-point.point-index c.point-item.result c.loop-point-test.true c.point-item.is)
    c.loop-point.invariant c.add_mass.ensures c.in_ok-total.was
