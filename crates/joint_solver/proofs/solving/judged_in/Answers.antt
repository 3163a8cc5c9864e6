use Rattle.std.proofs.Common.{unsigned_abs}
use Rattle.std.proofs.lemmas.Result.{err_from_is_err_and}
use Rattle.simplex.specs.Stops.{stop_of}
use Rattle.constraint_generation.specs.Answers.{as_stopped, limits_of}
use Rattle.constraint_generation.proofs.Certified.{judged_after, stops_before, then_sums}
use Rattle.joint_solver.proofs.solving.judged_in.Goals as goal

pub returns-in_err-joint-clause-run : goal.returns-in_err-joint-clause-run
returns-in_err-joint-clause-run g c =
    let q = err_from_is_err_and c.from_residual.result c.from_residual.ensures.1 in
    let limits = limits_of (unsigned_abs g.N.Exact.LIMIT) c.args.budget.now.limit in
    let batch = c.args.batch.now in
    rw (q.1, q.2)
    (stops_before g.N.Exact.fraction _ _ _ (stop_of c.in_err-joint.field-0.0) c.solve_unjudged.new.budget.spent (then_sums limits batch.underlyings batch.orders c.args.budget.now.spent) c.in_err-joint.ensures.run)

pub returns-clause-run : goal.returns-clause-run
returns-clause-run g c =
    let limits = limits_of (unsigned_abs g.N.Exact.LIMIT) c.args.budget.now.limit in
    let batch = c.args.batch.now in
    judged_after g.N.Exact.fraction batch _ _ c.in_ok-joint.joint (as_stopped c.judge_widened.result) c.solve_unjudged.new.budget.spent
    (then_sums limits batch.underlyings batch.orders c.args.budget.now.spent) c.in_ok-joint.ensures.run c.judge_widened.ensures
