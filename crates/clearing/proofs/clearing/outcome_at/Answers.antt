use Rattle.std.proofs.Common.{arith, ◌≡◌, ◌∙◌, ap, subst}
use Rattle.frac.specs.Value.{fraction_of}
use Rattle.simplex.specs.Stops.{stop_of}
use Rattle.simplex.specs.declared.stop.RunStop.TheVariants.{Wide as WideStop, Budget as BudgetStop}
use Rattle.constraint_generation.specs.Answers.{IsJointAnswer, as_stopped, reading_in}
use Rattle.clearing.specs.Outcome.{run_of}
use Rattle.clearing.proofs.OutcomeEnds.{outcome_of-done, outcome_of-wide_at, outcome_of-no_unit_left, IsJointAnswer-wide, IsJointAnswer-budget}
use Rattle.clearing.proofs.Values.{joint_has_values}
use Rattle.clearing.proofs.clearing.outcome_at.Goals as goal

pub returns-in-Ok : goal.returns-in-Ok
returns-in-Ok c = λ batch kept end.
    let units = c.args.limit in
    let joint = c.in-Ok.joint in
    let answer = subst (λ r. IsJointAnswer fraction_of (run_of batch units) (as_stopped r) c.args.units) c.in-Ok.is end in
    let values = joint_has_values joint.fills.items joint.liability joint.surplus joint.measure.points answer.0 joint.cover answer.1 in
    c.optimal_outcome.ensures answer.0 answer.1 ∙ outcome_of-done batch units c.args.units (reading_in fraction_of joint, answer.0) answer.2 values

pub returns-in-Err-Wide : goal.returns-in-Err-Wide
returns-in-Err-Wide c = λ batch kept end.
    let at = c.in-Err-Wide in
    let same : at.field-0 ≡ WideStop at.unit at.wide = grind arith in
    let answer = subst (λ r. IsJointAnswer fraction_of (run_of batch c.args.limit) (as_stopped r) c.args.units) at.is end in
    let run = IsJointAnswer-wide _ (stop_of at.field-0) at.unit at.wide _ (ap stop_of same) answer in
    c.fallback.ensures batch.orders kept ∙ outcome_of-wide_at batch c.args.limit at.unit at.wide run

pub returns-in-Err-Budget : goal.returns-in-Err-Budget
returns-in-Err-Budget c = λ batch kept end.
    let at = c.in-Err-Budget in
    let same : at.field-0 ≡ BudgetStop = grind arith in
    let answer = subst (λ r. IsJointAnswer fraction_of (run_of batch c.args.limit) (as_stopped r) c.args.units) at.is end in
    let run = IsJointAnswer-budget fraction_of _ (stop_of at.field-0) _ (ap stop_of same) answer in
    c.fallback-in-Err-Budget.ensures batch.orders kept ∙ outcome_of-no_unit_left batch c.args.limit c.args.units run
