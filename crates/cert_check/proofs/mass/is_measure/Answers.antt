use Rattle.std.proofs.Common.{◌≡◌, false, map, Ok, rules, ◌∙◌}
use Rattle.frac.specs.Range.{limit}
use Rattle.cert_check.specs.Points.{point_of}
use Rattle.cert_check.specs.MeasureSums.{has_unit_mass}
use Rattle.cert_check.proofs.MeasureSound.{masses_are_exact, weights_lowest}
use Rattle.cert_check.proofs.mass.is_measure.Goals as goal

pub returns-then-not-are_weights-clause-fails : goal.returns-then-not-are_weights-clause-fails
returns-then-not-are_weights-clause-fails c is =
    let steps : has_unit_mass limit (map point_of c.args.m.now.points) ≡ Ok false = search rules in
    (masses_are_exact limit (map point_of c.args.m.now.points) (weights_lowest c.args.m.now.points)).1 steps

pub returns-clause-holds : goal.returns-clause-holds
returns-clause-holds c is =
    let steps : has_unit_mass limit (map point_of c.args.m.now.points) ≡ Ok c.eq.result = search rules in
    (masses_are_exact limit (map point_of c.args.m.now.points) (weights_lowest c.args.m.now.points)).0 (steps ∙ is)

pub returns-clause-fails : goal.returns-clause-fails
returns-clause-fails c is =
    let steps : has_unit_mass limit (map point_of c.args.m.now.points) ≡ Ok c.eq.result = search rules in
    (masses_are_exact limit (map point_of c.args.m.now.points) (weights_lowest c.args.m.now.points)).1 (steps ∙ is)
