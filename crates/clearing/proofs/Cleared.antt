-- What is said of the outcome of a clear, by the laws over the definition.
use Rattle.std.proofs.Common.{◌≡◌, ℕ, map, sym, subst}
use Rattle.frac.specs.Range.{limit as largest}
use Rattle.frac.specs.Value.{fraction_of}
use Rattle.form.specs.declared.orders.Batch.{Batch}
use Rattle.form.specs.Limits.{IsWithinLimits}
use Rattle.clearing_model.specs.Certificate.{AreFractionFills}
use Rattle.cert_check.specs.declared.outcome.Outcome.{Outcome}
use Rattle.cert_check.specs.declared.outcome.Verdict.TheVariants.{Yes}
use Rattle.cert_check.specs.Conditions.{IfOptimal}
use Rattle.cert_check.specs.Events.{verdict_of}
use Rattle.cert_check.specs.Laws.{IsCovered, IsMeasured, IsProved}
use Rattle.clearing.specs.Outcome.{HasEnoughUnits, IsMarked, outcome_of}
use Rattle.clearing.proofs.Marks.{outcomes_are_marked}
use Rattle.clearing.proofs.Outcomes.{outcomes_are_within, outcomes_are_covered, outcomes_are_measured, optimal_is_greatest}
use Rattle.clearing.proofs.EnoughUnits.{units_suffice}
use Rattle.clearing.proofs.Yes.{outcomes_are_judged_yes}

pub record IsCleared (batch : Batch) (units : ℕ) (outcome : Outcome) : Type 0 where
  pub marked : IsMarked batch units outcome
  pub within : AreFractionFills batch.orders (map fraction_of outcome.fills)
  pub covers : IsCovered batch outcome
  pub measured : IfOptimal outcome.mark (λ cover measure. IsMeasured batch outcome measure)
  pub greatest : IfOptimal outcome.mark (λ cover measure. IsProved batch outcome)
  pub yes : verdict_of largest batch outcome ≡ Yes
  pub choices : HasEnoughUnits batch units outcome

pub cleared : (batch : Batch) (units : ℕ) (outcome : Outcome) → IsWithinLimits batch → outcome ≡ outcome_of batch units → IsCleared batch units outcome
cleared batch units outcome limits is =
    subst (IsCleared batch units) (sym is)
    record {
      marked = outcomes_are_marked batch units limits;
      within = outcomes_are_within batch units limits;
      covers = outcomes_are_covered batch units limits;
      measured = outcomes_are_measured batch units limits;
      greatest = optimal_is_greatest batch units limits;
      yes = outcomes_are_judged_yes batch units limits;
      choices = units_suffice batch units limits;
    }
