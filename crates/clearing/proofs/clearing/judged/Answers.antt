use Rattle.std.proofs.Common.{refl, subst}
use Rattle.std.proofs.lemmas.Result.{err_from_is_err_and}
use Rattle.frac.specs.Value.{fraction_of}
use Rattle.simplex.specs.Stops.{stop_of}
use Rattle.constraint_generation.specs.Answers.{IsJointAnswer, as_stopped}
use Rattle.constraint_generation.proofs.Certified.{judged_after, stops_before}
use Rattle.clearing.specs.Outcome.{judged}
use Rattle.clearing.proofs.clearing.judged.Goals as goal

pub returns : goal.returns
returns c = λ end answer.
    let found = subst (λ r. IsJointAnswer fraction_of end (as_stopped r) c.args.units) c.in_ok-solved.was answer in
    judged_after fraction_of c.args.batch.now (judged c.args.batch.now end) end c.in_ok-solved.field-0 (as_stopped c.judge.result) c.args.units refl found c.judge.ensures

pub returns-in_err-solved : goal.returns-in_err-solved
returns-in_err-solved c = λ end answer.
    let q = err_from_is_err_and c.from_residual.result c.from_residual.ensures.1 in
    let stopped = subst (λ r. IsJointAnswer fraction_of end (as_stopped r) c.args.units) c.in_err-solved.was answer in
    rw (q.1, q.2) (stops_before fraction_of (judged c.args.batch.now end) end _ (stop_of c.in_err-solved.field-0.0) c.args.units refl stopped)
