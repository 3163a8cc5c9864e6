use Rattle.std.proofs.Common.{ap, ◌∙◌, sym, subst, unsigned_abs}
use Rattle.simplex.specs.Stops.{stop_of}
use Rattle.constraint_generation.specs.Answers.{IsCoverAs, reading_in}
use Rattle.simplex_run.specs.Ending.{HasNoMisfit, done, no_unit_left}
use Rattle.clearing.proofs.OutcomeEnds.{IsJointAnswer-budget}
use Rattle.narrow_clearing.specs.Passes.{unjudged_in}
use Rattle.narrow_clearing.proofs.NarrowRuns.{narrow_run, run_with}
use Rattle.narrow_clearing.proofs.narrow.outcome_by.Goals as goal

pub returns-in-Ok : goal.returns-in-Ok
returns-in-Ok g c =
    let small = unsigned_abs g.N.Exact.LIMIT in
    let batch = c.args.batch.now in
    let units = c.args.limit in
    let budget = c.new-budget in
    let spent = c.solve_unjudged.new.budget.spent in
    let answer = c.in-Ok.ensures.run in
    let found = reading_in g.N.Exact.fraction c.in-Ok.joint in
    let ended = run_with small batch budget.result.limit budget.result.spent units _ budget.ensures.limit budget.ensures.spent answer.2 in
    let wide = c.widened.ensures in
    record {
      outcome =
          c.outcome_after-outcome.ensures (unjudged_in small batch units)
          (answer.0, subst (IsCoverAs answer.0) (sym wide.cover) answer.1, ended ∙ (λ i. done (sym wide.reading i, answer.0) spent))
          (narrow_run small batch units (done (found, answer.0) spent) c.requires.narrow ended tt);
      pass = subst HasNoMisfit (sym ended) tt;
    }

pub returns-in-Err-Budget : goal.returns-in-Err-Budget
returns-in-Err-Budget g c =
    let small = unsigned_abs g.N.Exact.LIMIT in
    let batch = c.args.batch.now in
    let units = c.args.limit in
    let budget = c.new-budget in
    let spent = c.solve_unjudged.new.budget.spent in
    let at = IsJointAnswer-budget g.N.Exact.fraction _ (stop_of c.in-Err-Budget.field-0) spent (ap stop_of c.in-Err-Budget.field-0-is) c.in-Err-Budget.ensures.run in
    let ended = run_with small batch budget.result.limit budget.result.spent units _ budget.ensures.limit budget.ensures.spent at in
    record {
      outcome = c.outcome_after-outcome-in-Err-Budget.ensures (unjudged_in small batch units) ended (narrow_run small batch units (no_unit_left spent) c.requires.narrow ended tt);
      pass = subst HasNoMisfit (sym ended) tt;
    }

pub outcome_after-outcome-requires-clause-joint : goal.outcome_after-outcome-requires-clause-joint
outcome_after-outcome-requires-clause-joint g c = c.widened.ensures.joint c.args.batch.now c.in-Ok.ensures.joint
