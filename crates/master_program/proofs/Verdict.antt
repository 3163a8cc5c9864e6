-- The verdict refuses no covered reading.
use Rattle.std.proofs.Common.{ℕ, List, length, map, get_or, pos, ◌≤ℤ◌, All, ap, sym, ◌∙◌, subst}
use Rattle.std.proofs.lemmas.List.{length-map}
use Rattle.exact_num.specs.Fraction.{Fraction}
use Rattle.frac.specs.Value.{fraction_of}
use Rattle.form.specs.declared.orders.Batch.{Batch}
use Rattle.form.specs.Payoff.{IsState}
use Rattle.clearing_model.specs.Clearing.{AreOn}
use Rattle.clearing_model.specs.Certificate.{AreFractionFills, IsPremiumLessLiability, Point, HasUnitMass, IsFractionMeasure, MeasureProves}
use Rattle.cert_check.specs.declared.measures.Measure.{Measure}
use Rattle.cert_check.specs.Points.{point_of}
use Rattle.cert_check.specs.declared.outcome.Cover.{Cover}
use Rattle.cert_check.specs.declared.outcome.Cover.TheVariants.{Line}
use Rattle.cert_check.specs.declared.outcome.Mark.{Mark}
use Rattle.cert_check.specs.declared.outcome.FailedCondition.{FailedCondition}
use Rattle.cert_check.specs.declared.outcome.FailedCondition.TheVariants as no
use Rattle.cert_check.specs.declared.outcome.Outcome.{Outcome}
use Rattle.cert_check.specs.declared.outcome.Verdict.TheVariants.{No as Refused}
use Rattle.cert_check.specs.Conditions.{IfOptimal, IsCoverOn, Closes, IsEnough, Meets, conditions}
use Rattle.cert_check.specs.Laws.{Says}
use Rattle.cert_check.proofs.Decided.{verdicts_decide}
use Rattle.master_program.specs.Reading.{Reading}
use Rattle.master_program.specs.Verdict.{IsOutcomeOf, IsNotRefused, CoveredReadingsAreNotRefused, LineReadingsAreNotRefused}

-- what the verdict asks of a reading, in the words of the model
record IsSound (n : ℕ) (batch : Batch) (cover : Cover) (r : Reading) : Type 0 where
  on : AreOn n batch.orders
  cover_on : IsCoverOn n cover
  fills : AreFractionFills batch.orders r.fills
  earned : IsPremiumLessLiability batch.orders r.fills r.liability r.surplus
  not_below_zero : pos 0 ≤ℤ r.surplus.numerator
  closes : Closes n batch.orders r.fills r.liability cover
  measure : IsFractionMeasure n r.measure
  proves : MeasureProves batch.orders r.measure r.surplus

abbrev AreStates : ℕ → List Point → Type 0
AreStates n points = All (λ (point : Point). IsState n point.0) points

met : (batch : Batch) (outcome : Outcome) (cover : Cover) (measure : Measure) (r : Reading) → IsSound batch.underlyings batch cover r → IsOutcomeOf r outcome cover measure → (condition : FailedCondition) → Meets batch outcome condition
met batch outcome cover measure r s o no.BatchShape =
    let n = batch.underlyings in
    record {
      orders = s.on;
      fills = sym (length-map outcome.fills fraction_of) ∙ ap length o.fills ∙ s.fills.0;
      mark = subst (λ (mark : Mark). IfOptimal mark (λ c m. IsCoverOn n c × AreStates n (map point_of m.points))) (sym o.mark) (s.cover_on, subst (AreStates n) (sym o.points) s.measure.states);
    }
met batch outcome cover measure r s o no.Fill = subst (AreFractionFills batch.orders) (sym o.fills) s.fills
met batch outcome cover measure r s o no.Cover =
    let n = batch.underlyings in
    let orders = batch.orders in
    let left = subst (λ (fills : List Fraction). IsPremiumLessLiability orders fills (fraction_of outcome.claim.liability) (fraction_of outcome.claim.surplus)) (sym o.fills)
    (subst (λ (L : Fraction). IsPremiumLessLiability orders r.fills L (fraction_of outcome.claim.surplus)) (sym o.liability)
    (subst (λ (S : Fraction). IsPremiumLessLiability orders r.fills r.liability S) (sym o.surplus) s.earned)) in
    let closes = subst (λ (fills : List Fraction). Closes n orders fills (fraction_of outcome.claim.liability) cover) (sym o.fills)
    (subst (λ (L : Fraction). Closes n orders r.fills L cover) (sym o.liability) s.closes) in (
      record { left = left; not_below_zero = subst (λ (S : Fraction). pos 0 ≤ℤ S.numerator) (sym o.surplus) s.not_below_zero },
      subst (λ (mark : Mark). IsEnough n orders (map fraction_of outcome.fills) (fraction_of outcome.claim.liability) mark) (sym o.mark) closes,
    )
met batch outcome cover measure r s o no.Measure =
    subst (λ (mark : Mark). IfOptimal mark (λ c m. HasUnitMass (map point_of m.points))) (sym o.mark) (subst HasUnitMass (sym o.points) s.measure.unit)
met batch outcome cover measure r s o no.Bound =
    subst (λ (mark : Mark). IfOptimal mark (λ c m. MeasureProves batch.orders (map point_of m.points) (fraction_of outcome.claim.surplus))) (sym o.mark)
    (subst (λ (points : List Point). MeasureProves batch.orders points (fraction_of outcome.claim.surplus)) (sym o.points)
    (subst (λ (S : Fraction). MeasureProves batch.orders r.measure S) (sym o.surplus) s.proves))

not_refused : (batch : Batch) (outcome : Outcome) → ((condition : FailedCondition) → Meets batch outcome condition) → IsNotRefused batch outcome
not_refused batch outcome h =
    record {
      meets = λ k d low. h (get_or conditions k d);
      not_no = λ condition e.
          let says : Says batch outcome (Refused condition) = subst (Says batch outcome) e (verdicts_decide batch outcome) in
          says.1.unmet (h condition);
    }

pub covered_readings_are_not_refused : CoveredReadingsAreNotRefused
covered_readings_are_not_refused batch outcome cover measure states r on cover_on c closes covers o =
    let sound : IsSound batch.underlyings batch cover r = record {
      on = on;
      cover_on = cover_on;
      fills = c.fills;
      earned = c.earned;
      not_below_zero = c.not_below_zero;
      closes = closes;
      measure = c.measure;
      proves = c.proves covers;
    } in
    not_refused batch outcome (met batch outcome cover measure r sound o)

pub line_readings_are_not_refused : LineReadingsAreNotRefused
line_readings_are_not_refused batch outcome measure r one on g o =
    let sound : IsSound batch.underlyings batch Line r = record {
      on = on;
      cover_on = one;
      fills = g.fills;
      earned = g.earned;
      not_below_zero = g.by_measure.not_below_zero;
      closes = g.closes;
      measure = subst (λ (n : ℕ). IsFractionMeasure n r.measure) (sym one) g.by_measure.measure;
      proves = g.by_measure.proves;
    } in
    not_refused batch outcome (met batch outcome Line measure r sound o)
