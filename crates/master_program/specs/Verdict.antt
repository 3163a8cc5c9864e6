-- What the verdict says of an outcome that is read off the master program.
use Rattle.std.specs.Prelude.{ℕ, ◌≡◌, List, map, Bool, true, false, Result, Ok, Err}
use Rattle.std.specs.List.{All, zip}
use Rattle.exact_num.specs.declared.misfit.Wide.{Wide}
use Rattle.frac.specs.Range.{limit}
use Rattle.frac.specs.Value.{fraction_of}
use Rattle.form.specs.declared.orders.Batch.{Batch}
use Rattle.form.specs.declared.orders.Order.{Order}
use Rattle.clearing_model.specs.Clearing.{AreOn}
use Rattle.clearing_model.specs.Certificate.{FillsCover}
use Rattle.cert_check.specs.declared.measures.Measure.{Measure}
use Rattle.exact_num.specs.Steps.{and_then}
use Rattle.cert_check.specs.Points.{point_of}
use Rattle.cert_check.specs.declared.outcome.Cover.{Cover}
use Rattle.cert_check.specs.declared.outcome.Cover.TheVariants.{Line}
use Rattle.cert_check.specs.declared.outcome.Mark.TheVariants.{Optimal}
use Rattle.cert_check.specs.declared.outcome.FailedCondition.{FailedCondition}
use Rattle.cert_check.specs.declared.outcome.Outcome.{Outcome}
use Rattle.cert_check.specs.declared.outcome.Verdict.{Verdict}
use Rattle.cert_check.specs.declared.outcome.Verdict.TheVariants.{Yes, No as Refused, Wide as TooWide}
use Rattle.cert_check.specs.Conditions.{IsCoverOn, Closes, Meets, conditions}
use Rattle.cert_check.specs.Tests.{surplus_holds, cover_holds, measure_holds, bound_holds}
use Rattle.cert_check.specs.Events.{verdict_of}
use Rattle.master_program.specs.Reading.{Reading}
use Rattle.master_program.specs.Certified.{IsCertifiedAt, IsGreatestByLine}

-- the outcome claims the reading, with this cover and this measure
pub record IsOutcomeOf (r : Reading) (outcome : Outcome) (cover : Cover) (measure : Measure) : Type 0 where
  pub fills : map fraction_of outcome.fills ≡ r.fills
  pub liability : fraction_of outcome.claim.liability ≡ r.liability
  pub surplus : fraction_of outcome.claim.surplus ≡ r.surplus
  pub mark : outcome.mark ≡ Optimal cover measure
  pub points : map point_of measure.points ≡ r.measure

-- each condition of the verdict is met: so it is yes, or a step of its sums does not fit
pub record IsNotRefused (batch : Batch) (outcome : Outcome) : Type 0 where
  pub meets : All (Meets batch outcome) conditions
  pub not_no : (condition : FailedCondition) → verdict_of limit batch outcome ≡ Refused condition → ⊥

-- so it is where a certified reading is covered, by a line or by a tree
abbrev pub CoveredReadingsAreNotRefused : Type 0
CoveredReadingsAreNotRefused =
    (batch : Batch) (outcome : Outcome) (cover : Cover) (measure : Measure) (states : List (List ℕ)) (r : Reading)
    → AreOn batch.underlyings batch.orders → IsCoverOn batch.underlyings cover
    → IsCertifiedAt batch.underlyings batch.orders states r
    → Closes batch.underlyings batch.orders r.fills r.liability cover
    → FillsCover batch.underlyings batch.orders r.fills r.surplus
    → IsOutcomeOf r outcome cover measure
    → IsNotRefused batch outcome

-- on one underlying, of what is read off over the states of the line
abbrev pub LineReadingsAreNotRefused : Type 0
LineReadingsAreNotRefused =
    (batch : Batch) (outcome : Outcome) (measure : Measure) (r : Reading)
    → batch.underlyings ≡ 1 → AreOn batch.underlyings batch.orders
    → IsGreatestByLine batch.orders r
    → IsOutcomeOf r outcome Line measure
    → IsNotRefused batch outcome

-- ---- the sums of the verdict
-- in order: surplus, cover, measure and bound
abbrev pub sums_with : ℕ → List Order → Reading → Result Bool Wide → Result Bool Wide
sums_with wide_limit orders r cover_closes =
    and_then (surplus_holds wide_limit (zip orders r.fills) r.liability r.surplus)
    (and_then cover_closes (and_then (measure_holds wide_limit r.measure) (bound_holds wide_limit orders r.measure r.surplus)))

-- the sums on a reading that claims this cover
abbrev pub sums_on : Batch → Reading → Cover → Result Bool Wide
sums_on batch r cover = sums_with limit batch.orders r (cover_holds limit batch.underlyings batch.orders r.fills r.liability cover)

-- what a judgement says of the sums
abbrev pub sums_of : Verdict → Result Bool Wide
sums_of Yes = Ok true
sums_of (Refused condition) = Ok false
sums_of (TooWide w) = Err w

-- where no condition refuses the outcome, the sums are those of the verdict
abbrev pub SumsDecide : Type 0
SumsDecide =
    (batch : Batch) (outcome : Outcome) (cover : Cover) (measure : Measure) (r : Reading)
    → IsOutcomeOf r outcome cover measure → IsNotRefused batch outcome
    → sums_on batch r cover ≡ sums_of (verdict_of limit batch outcome)

-- so the verdict is yes where each of them fits
abbrev pub SumsThatFitPass : Type 0
SumsThatFitPass =
    (batch : Batch) (outcome : Outcome) (cover : Cover) (measure : Measure) (r : Reading) (holds : Bool)
    → IsOutcomeOf r outcome cover measure → IsNotRefused batch outcome
    → sums_on batch r cover ≡ Ok holds → verdict_of limit batch outcome ≡ Yes
