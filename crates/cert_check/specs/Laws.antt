-- What a verdict shows.
use Rattle.std.specs.Prelude.{◌≡◌, map, pos, ◌≤ℤ◌}
use Rattle.std.specs.List.{All}
use Rattle.frac.specs.Range.{limit}
use Rattle.frac.specs.Value.{fraction_of}
use Rattle.form.specs.declared.orders.Batch.{Batch}
use Rattle.clearing_model.specs.Clearing.{AreOn, IsGreatest}
use Rattle.clearing_model.specs.Certificate.{FillsCover, IsFractionMeasure, MeasureProves}
use Rattle.cert_check.specs.declared.measures.Measure.{Measure}
use Rattle.cert_check.specs.Points.{point_of}
use Rattle.cert_check.specs.declared.outcome.Outcome.{Outcome}
use Rattle.cert_check.specs.declared.outcome.Verdict.{Verdict}
use Rattle.cert_check.specs.declared.outcome.Verdict.TheVariants.{Yes}
use Rattle.cert_check.specs.Conditions.{OnYes, IfNo, IfOptimal, Meets, conditions, IsFirstUnmet}
use Rattle.cert_check.specs.Events.{verdict_of}

-- each order is a bundle on the batch's underlyings, and the fills cover the claimed surplus at
-- every settlement; it is not below 0
pub record IsCovered (batch : Batch) (outcome : Outcome) : Type 0 where
  pub on_underlyings : AreOn batch.underlyings batch.orders
  pub covers : FillsCover batch.underlyings batch.orders (map fraction_of outcome.fills) (fraction_of outcome.claim.surplus)
  pub not_below_zero : pos 0 ≤ℤ (fraction_of outcome.claim.surplus).numerator

-- and no fractional fills cover more
pub record IsProved (batch : Batch) (outcome : Outcome) : Type 0 where
  pub covered : IsCovered batch outcome
  pub greatest : IsGreatest batch.underlyings batch.orders (fraction_of outcome.claim.surplus)

-- the measure is one of the batch's underlyings, and its bound is the claimed surplus
pub record IsMeasured (batch : Batch) (outcome : Outcome) (measure : Measure) : Type 0 where
  pub is_measure : IsFractionMeasure batch.underlyings (map point_of measure.points)
  pub bound : MeasureProves batch.orders (map point_of measure.points) (fraction_of outcome.claim.surplus)

-- of an outcome whose mark is optimal
abbrev pub IsMeasuredIfOptimal : Batch → Outcome → Type 0
IsMeasuredIfOptimal batch outcome = IfOptimal outcome.mark (λ cover measure. IsMeasured batch outcome measure)

abbrev pub IsProvedIfOptimal : Batch → Outcome → Type 0
IsProvedIfOptimal batch outcome = IfOptimal outcome.mark (λ cover measure. IsProved batch outcome)

-- a yes meets each condition, and a no names the first that is not met
abbrev pub Says : Batch → Outcome → Verdict → Type 0
Says batch outcome judgement =
    OnYes judgement (All (Meets batch outcome) conditions) × IfNo judgement (IsFirstUnmet batch outcome)

abbrev pub VerdictsDecide : Type 0
VerdictsDecide = (batch : Batch) (outcome : Outcome) → Says batch outcome (verdict_of limit batch outcome)

-- where each condition is met the fills cover; with the mark optimal the measure is one, and the
-- surplus the greatest
abbrev pub ConditionsCover : Type 0
ConditionsCover = (batch : Batch) (outcome : Outcome) → All (Meets batch outcome) conditions → IsCovered batch outcome

abbrev pub ConditionsMeasure : Type 0
ConditionsMeasure =
    (batch : Batch) (outcome : Outcome) → All (Meets batch outcome) conditions
    → IsMeasuredIfOptimal batch outcome

abbrev pub ConditionsProve : Type 0
ConditionsProve =
    (batch : Batch) (outcome : Outcome) → All (Meets batch outcome) conditions
    → IsProvedIfOptimal batch outcome

-- so a yes shows that
abbrev pub YesCovers : Type 0
YesCovers = (batch : Batch) (outcome : Outcome) → verdict_of limit batch outcome ≡ Yes → IsCovered batch outcome

abbrev pub YesHasItsMeasure : Type 0
YesHasItsMeasure =
    (batch : Batch) (outcome : Outcome) → verdict_of limit batch outcome ≡ Yes
    → IsMeasuredIfOptimal batch outcome

abbrev pub YesOnOptimalProves : Type 0
YesOnOptimalProves =
    (batch : Batch) (outcome : Outcome) → verdict_of limit batch outcome ≡ Yes
    → IsProvedIfOptimal batch outcome
