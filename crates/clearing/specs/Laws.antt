-- What each outcome is, whatever the batch and the units.
use Rattle.std.specs.Prelude.{ℕ, ◌≡◌, map}
use Rattle.std.specs.List.{All}
use Rattle.frac.specs.Range.{limit as largest}
use Rattle.frac.specs.Value.{fraction_of}
use Rattle.form.specs.declared.orders.Batch.{Batch}
use Rattle.clearing_model.specs.Certificate.{AreFractionFills}
use Rattle.form.specs.Limits.{IsWithinLimits}
use Rattle.cert_check.specs.declared.outcome.Outcome.{Outcome}
use Rattle.cert_check.specs.declared.outcome.Verdict.TheVariants.{Yes}
use Rattle.cert_check.specs.Conditions.{IfOptimal, Meets, conditions}
use Rattle.cert_check.specs.Events.{verdict_of}
use Rattle.cert_check.specs.Laws.{IsCovered, IsMeasured, IsProved}
use Rattle.clearing.specs.Outcome.{HasEnoughUnits, IsMarked, outcome_of}

-- a fact of the outcome of each batch within the limits of the exchange, with any number of units
abbrev pub OfEachOutcome : (Batch → Outcome → Type 0) → Type 0
OfEachOutcome P = (batch : Batch) (units : ℕ) → IsWithinLimits batch → P batch (outcome_of batch units)

-- each condition of a certificate is met
abbrev pub OutcomesMeetAll : Type 0
OutcomesMeetAll = OfEachOutcome (λ batch outcome. All (Meets batch outcome) conditions)

-- each fill is from 0 to the order's quantity
abbrev pub OutcomesAreWithin : Type 0
OutcomesAreWithin = OfEachOutcome (λ batch outcome. AreFractionFills batch.orders (map fraction_of outcome.fills))

-- the fills cover the surplus at every settlement, and it is not below 0
abbrev pub OutcomesAreCovered : Type 0
OutcomesAreCovered = OfEachOutcome IsCovered

-- with the mark optimal the measure is one, and its bound is the surplus
abbrev pub OutcomesAreMeasured : Type 0
OutcomesAreMeasured = OfEachOutcome (λ batch outcome. IfOptimal outcome.mark (λ cover measure. IsMeasured batch outcome measure))

-- and the surplus is the greatest
abbrev pub OptimalIsGreatest : Type 0
OptimalIsGreatest = OfEachOutcome (λ batch outcome. IfOptimal outcome.mark (λ cover measure. IsProved batch outcome))

-- the verdict is yes
abbrev pub OutcomesAreJudgedYes : Type 0
OutcomesAreJudgedYes = OfEachOutcome (λ batch outcome. verdict_of largest batch outcome ≡ Yes)

-- the mark and the units are those of the end of the run: it is missing only where the run stops
abbrev pub OutcomesAreMarked : Type 0
OutcomesAreMarked = (batch : Batch) (units : ℕ) → IsWithinLimits batch → IsMarked batch units (outcome_of batch units)

-- on one underlying the mark is not for want of a unit where there are enough
abbrev pub UnitsSuffice : Type 0
UnitsSuffice = (batch : Batch) (units : ℕ) → IsWithinLimits batch → HasEnoughUnits batch units (outcome_of batch units)
