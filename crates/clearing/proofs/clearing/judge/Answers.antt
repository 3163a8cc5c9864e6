use Rattle.std.proofs.Common.{map, sym, ◌∙◌}
use Rattle.frac.specs.Value.{fraction_of}
use Rattle.cert_check.specs.Points.{point_of}
use Rattle.master_program.specs.Reading.{reading_with}
use Rattle.master_program.specs.Verdict.{sums_on}
use Rattle.constraint_generation.proofs.Certified.{not_passed, passed}
use Rattle.clearing.proofs.clearing.judge.Goals as goal

pub returns-in-Ok : goal.returns-in-Ok
returns-in-Ok c =
    let batch = c.args.batch.now in
    let joint = c.args.joint in
    passed fraction_of batch joint c.args.unit c.in-Ok.field-0
    (sym (c.in-Ok.ensures ∙ (λ i. sums_on batch (reading_with (map fraction_of (c.deref.ensures.value i)) (fraction_of joint.surplus) (map point_of joint.measure.points) (fraction_of joint.liability)) joint.cover)))

pub returns-in-Err : goal.returns-in-Err
returns-in-Err c =
    let batch = c.args.batch.now in
    let joint = c.args.joint in
    not_passed fraction_of batch joint c.args.unit c.in-Err.wide
    (sym (c.in-Err.ensures ∙ (λ i. sums_on batch (reading_with (map fraction_of (c.deref.ensures.value i)) (fraction_of joint.surplus) (map point_of joint.measure.points) (fraction_of joint.liability)) joint.cover)))
