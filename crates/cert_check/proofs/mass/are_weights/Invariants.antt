use Rattle.std.proofs.Common.{◌≡◌, drop, map}
use Rattle.cert_check.specs.Points.{point_of}
use Rattle.cert_check.specs.MeasureSums.{are_weights}
use Rattle.cert_check.proofs.mass.are_weights.Given as goal

abbrev pub invariant-loop-point : goal.invariant-loop-point
invariant-loop-point l = are_weights (map point_of l.points) ≡ are_weights (drop l.point-index (map point_of l.points))
