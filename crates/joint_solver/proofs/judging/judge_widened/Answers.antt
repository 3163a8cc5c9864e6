use Rattle.std.proofs.Common.{map, ap, sym, ◌∙◌}
use Rattle.frac.specs.Value.{fraction_of}
use Rattle.cert_check.specs.Points.{point_of}
use Rattle.master_program.specs.Reading.{reading_with}
use Rattle.master_program.specs.Verdict.{sums_on}
use Rattle.constraint_generation.proofs.Certified.{not_passed, passed}
use Rattle.joint_solver.proofs.judging.judge_widened.Goals as goal

pub returns-in-Ok : goal.returns-in-Ok
returns-in-Ok g c =
    let value = g.N.Exact.fraction in
    let batch = c.args.batch.now in
    let joint = c.args.joint in
    let fills = ap (map fraction_of) c.deref-2.ensures.value ∙ c.write_widened.ensures ∙ ap (map value) c.deref.ensures.value in
    passed value batch joint c.args.unit c.in-Ok.field-0
    (sym (c.in-Ok.ensures ∙ (λ i. sums_on batch (reading_with (fills i) (c.of-2.ensures i) (map point_of joint.measure.points) (c.of.ensures i)) joint.cover)))

pub returns-in-Err : goal.returns-in-Err
returns-in-Err g c =
    let value = g.N.Exact.fraction in
    let batch = c.args.batch.now in
    let joint = c.args.joint in
    let fills = ap (map fraction_of) c.deref-2.ensures.value ∙ c.write_widened.ensures ∙ ap (map value) c.deref.ensures.value in
    not_passed value batch joint c.args.unit c.in-Err.wide
    (sym (c.in-Err.ensures ∙ (λ i. sums_on batch (reading_with (fills i) (c.of-2.ensures i) (map point_of joint.measure.points) (c.of.ensures i)) joint.cover)))
