-- What holds of the numbers of every run.
use Rattle.std.specs.Prelude.{ℕ}
use Rattle.frac.specs.Range.{limit as largest}
use Rattle.form.specs.declared.orders.Batch.{Batch}
use Rattle.form.specs.Limits.{IsWithinLimits}
use Rattle.constraint_generation.specs.Answers.{limits_of}
use Rattle.constraint_generation.specs.Run.{joint_run}
use Rattle.run_values.specs.Values.{Ends, IsSolutionOf}

-- of a batch within the limits of the exchange, with any number of units
abbrev pub RunsHaveValues : Type 0
RunsHaveValues =
    (batch : Batch) (units : ℕ) → IsWithinLimits batch
    → Ends IsSolutionOf (joint_run (limits_of largest units) batch.underlyings batch.orders 0)
