-- A run in narrow numbers that meets no misfit is the run in 128 bits before the sums of the
-- verdict.
use Rattle.std.proofs.Common.{◌≡◌, ℕ, ◌≤◌, sym, ap, ◌∙◌, subst}
use Rattle.frac.specs.Range.{limit as largest}
use Rattle.simplex_run.specs.Ending.{Ending, HasNoMisfit}
use Rattle.form.specs.declared.orders.Batch.{Batch}
use Rattle.constraint_generation.specs.Answers.{limits_of}
use Rattle.constraint_generation.specs.Run.{CoveredReading, unjudged_run}
use Rattle.constraint_generation.proofs.Certified.{then_sums}
use Rattle.constraint_generation.proofs.Wider.{unjudged_runs_are_the_same}
use Rattle.clearing.specs.Outcome.{judged, run_of}
use Rattle.narrow_clearing.specs.Passes.{unjudged_in}

pub narrow_run : (small : ℕ) (batch : Batch) (units : ℕ) (end : Ending CoveredReading) → small ≤ largest → unjudged_in small batch units ≡ end → HasNoMisfit end
    → run_of batch units ≡ judged batch (unjudged_in small batch units)
narrow_run small batch units end le is fits =
    let n = batch.underlyings in
    then_sums (limits_of largest units) n batch.orders 0
    ∙ ap (judged batch) (unjudged_runs_are_the_same (limits_of small units) largest n 0 batch.orders le (subst HasNoMisfit (sym is) fits))

-- the run with a budget of which nothing is spent
pub run_with : (small : ℕ) (batch : Batch) (limit spent units : ℕ) (end : Ending CoveredReading) → limit ≡ units → spent ≡ 0
    → unjudged_run (limits_of small limit) batch.underlyings batch.orders spent ≡ end → unjudged_in small batch units ≡ end
run_with small batch limit spent units end el es h =
    (λ j. unjudged_run (limits_of small (sym el j)) batch.underlyings batch.orders (sym es j)) ∙ h
