-- In which numbers a batch is cleared.
use Rattle.std.specs.Prelude.{ℕ}
use Rattle.form.specs.declared.orders.Batch.{Batch}
use Rattle.constraint_generation.specs.Answers.{limits_of}
use Rattle.constraint_generation.specs.Run.{CoveredReading, unjudged_run}
use Rattle.simplex_run.specs.Ending.{Ending, HasNoMisfit}
use Rattle.narrow_clearing.specs.declared.passes.Pass.{Pass}
use Rattle.narrow_clearing.specs.declared.passes.Pass.TheVariants.{Narrow, Broad}

-- the run of a batch before the sums of the verdict, in numbers with this limit and with at most so
-- many units
abbrev pub unjudged_in : ℕ → Batch → ℕ → Ending CoveredReading
unjudged_in limit batch units = unjudged_run (limits_of limit units) batch.underlyings batch.orders 0

-- narrow where this run meets no misfit, also where it ends for want of a unit, and broad where it
-- meets one
abbrev pub IsPass : Ending CoveredReading → Pass → Type 0
IsPass end Narrow = HasNoMisfit end
IsPass end Broad = HasNoMisfit end → ⊥
