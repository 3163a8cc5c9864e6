use Rattle.std.proofs.Common.{Ok, refl, unsigned_abs}
use Rattle.form.proofs.BundleLegs.{is_bundle_of}
use Rattle.constraint_generation.specs.Answers.{limits_of}
use Rattle.joint_solver.proofs.Answered.{answer_is_greatest, answer_passes}
use Rattle.joint_solver.proofs.solving.solve_joint.Goals as goal

pub returns-clause-holds : goal.returns-clause-holds
returns-clause-holds g c =
    let value = g.N.Exact.fraction in
    let batch = c.args.batch.now in
    let budget = c.args.budget.now in
    let forms = c.requires.limits.has_forms in
    let solved = c.in_ok-solve_judged in
    let limits = limits_of (unsigned_abs g.N.Exact.LIMIT) budget.limit in
    let units = c.solve_judged.new.budget.spent in
    record {
      greatest = answer_is_greatest value limits batch.underlyings budget.spent units batch.orders (Ok solved.field-0) forms.some forms.few budget.within solved.ensures.run;
      yes = answer_passes value limits budget.spent units batch (Ok solved.field-0) forms.some forms.few (λ k d low. is_bundle_of batch.underlyings _ (forms.forms k d low)) budget.within refl solved.ensures.run;
    }
