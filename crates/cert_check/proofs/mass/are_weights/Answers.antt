use Rattle.std.proofs.Common.{ap, refl, ◌∙◌}
use Rattle.arithmetic.proofs.Lists.{drop_map}
use Rattle.cert_check.specs.Points.{point_of}
use Rattle.cert_check.specs.MeasureSums.{are_weights}
use Rattle.cert_check.proofs.mass.are_weights.Goals as goal

pub returns-then-not-is_weight : goal.returns-then-not-is_weight
returns-then-not-is_weight c =
    let there = drop_map point_of c.args.points.now c.loop-point.point-index c.point-item.result c.loop-point-test.true c.point-item.is in
    rw (c.loop-point.invariant, there, ← c.is_weight.ensures, c.if-not-is_weight.true) refl

pub loop-point-preserved : goal.loop-point-preserved
loop-point-preserved c =
    let there = drop_map point_of c.args.points.now c.loop-point.point-index c.point-item.result c.loop-point-test.true c.point-item.is in
    c.loop-point.invariant ∙ ap are_weights there ∙ rw (← c.is_weight.ensures, c.if-not-is_weight.false) refl
