use Rattle.std.proofs.Common.{◌∙◌, sym}
use Rattle.frac.specs.Range.{limit as largest}
use Rattle.constraint_generation.specs.Answers.{limits_of}
use Rattle.constraint_generation.specs.Run.{unjudged_run}
use Rattle.constraint_generation.proofs.Certified.{then_sums}
use Rattle.clearing.specs.Outcome.{judged}
use Rattle.clearing.proofs.room.ClearRoom.clear.Goals as goal

pub returns : goal.returns
returns c =
    let batch = c.args.batch.now in
    let budget = c.new-budget in
    c.outcome_after.ensures (unjudged_run (limits_of largest budget.result.limit) batch.underlyings batch.orders budget.result.spent) c.solve_unjudged-solved.ensures.run
    (then_sums (limits_of largest c.args.limit) batch.underlyings batch.orders 0
    ∙ (λ i. judged batch (unjudged_run (limits_of largest (sym budget.ensures.limit i)) batch.underlyings batch.orders (sym budget.ensures.spent i))))
