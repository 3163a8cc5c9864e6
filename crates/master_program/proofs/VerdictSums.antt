-- The sums of a run are those of the verdict.
use Rattle.std.proofs.Common.{◌≡◌, ℕ, List, Bool, true, false, map, zip, Result, Ok, Err, refl, ap, sym, ◌∙◌}
use Rattle.exact_num.specs.declared.misfit.Wide.{Wide}
use Rattle.exact_num.specs.Fraction.{Fraction}
use Rattle.frac.specs.Range.{limit}
use Rattle.frac.specs.Value.{fraction_of}
use Rattle.frac.specs.declared.frac128.Frac128.{Frac128}
use Rattle.form.specs.declared.orders.Batch.{Batch}
use Rattle.exact_num.specs.Steps.{and_then}
use Rattle.cert_check.specs.declared.measures.Measure.{Measure}
use Rattle.cert_check.specs.Points.{point_of}
use Rattle.cert_check.specs.declared.outcome.Cover.{Cover}
use Rattle.cert_check.specs.declared.outcome.Mark.TheVariants.{Optimal}
use Rattle.cert_check.specs.declared.outcome.FailedCondition.{FailedCondition}
use Rattle.cert_check.specs.declared.outcome.FailedCondition.TheVariants as no
use Rattle.cert_check.specs.declared.outcome.Outcome.{Outcome}
use Rattle.cert_check.specs.declared.outcome.Verdict.{Verdict}
use Rattle.cert_check.specs.declared.outcome.Verdict.TheVariants.{Yes, No as Refused, Wide as TooWide}
use Rattle.cert_check.specs.Tests.{surplus_holds, cover_holds, measure_holds, bound_holds}
use Rattle.cert_check.specs.Events.{check, verdict_of}
use Rattle.cert_check.specs.Shape.{has_shape, are_fills}
use Rattle.master_program.specs.Reading.{Reading, reading_with}
use Rattle.master_program.specs.Verdict.{sums_on, sums_of, SumsDecide, SumsThatFitPass}

abbrev judgement_of : (shape fills : Bool) (S C M B : Result Bool Wide) → Verdict
judgement_of shape fills S C M B =
    check no.BatchShape (Ok shape) (check no.Fill (Ok fills) (check no.Cover (and_then S C) (check no.Measure M (check no.Bound B Yes))))

-- where no condition fails, the sums one after another decide
decided : (shape fills : Bool) (S C M B : Result Bool Wide) → ((condition : FailedCondition) → judgement_of shape fills S C M B ≡ Refused condition → ⊥)
    → and_then S (and_then C (and_then M B)) ≡ sums_of (judgement_of shape fills S C M B)
decided false fills S C M B h = absurd (h no.BatchShape refl)
decided true false S C M B h = absurd (h no.Fill refl)
decided true true (Err w) C M B h = refl
decided true true (Ok false) C M B h = absurd (h no.Cover refl)
decided true true (Ok true) (Err w) M B h = refl
decided true true (Ok true) (Ok false) M B h = absurd (h no.Cover refl)
decided true true (Ok true) (Ok true) (Err w) B h = refl
decided true true (Ok true) (Ok true) (Ok false) B h = absurd (h no.Measure refl)
decided true true (Ok true) (Ok true) (Ok true) (Err w) h = refl
decided true true (Ok true) (Ok true) (Ok true) (Ok false) h = absurd (h no.Bound refl)
decided true true (Ok true) (Ok true) (Ok true) (Ok true) h = refl

-- an optimal outcome in parts
abbrev optimal : List Frac128 → (liability surplus : Frac128) → Cover → Measure → ℕ → Outcome
optimal fills liability surplus cover measure units =
    record { fills = fills; claim = record { liability = liability; surplus = surplus }; mark = Optimal cover measure; units = units }

sums_are : (batch : Batch) (fills : List Frac128) (L S : Frac128) (cover : Cover) (measure : Measure) (units : ℕ)
    → ((condition : FailedCondition) → verdict_of limit batch (optimal fills L S cover measure units) ≡ Refused condition → ⊥)
    → sums_on batch (reading_with (map fraction_of fills) (fraction_of S) (map point_of measure.points) (fraction_of L)) cover ≡ sums_of (verdict_of limit batch (optimal fills L S cover measure units))
sums_are batch fills L S cover measure units h =
    let fs : List Fraction = map fraction_of fills in
    let points = map point_of measure.points in
    decided (has_shape batch (optimal fills L S cover measure units)) (are_fills batch.orders fills) (surplus_holds limit (zip batch.orders fs) (fraction_of L) (fraction_of S))
    (cover_holds limit batch.underlyings batch.orders fs (fraction_of L) cover) (measure_holds limit points) (bound_holds limit batch.orders points (fraction_of S)) h

pub sums_decide : SumsDecide
sums_decide batch outcome cover measure r o refused =
    let whole : outcome ≡ optimal outcome.fills outcome.claim.liability outcome.claim.surplus cover measure outcome.units =
    λ j. record { fills = outcome.fills; claim = outcome.claim; mark = o.mark j; units = outcome.units } in
    let claims : reading_with (map fraction_of outcome.fills) (fraction_of outcome.claim.surplus) (map point_of measure.points) (fraction_of outcome.claim.liability) ≡ r =
    λ j. reading_with (o.fills j) (o.surplus j) (o.points j) (o.liability j) in
    ap (λ (r : Reading). sums_on batch r cover) (sym claims)
    ∙ sums_are batch outcome.fills outcome.claim.liability outcome.claim.surplus cover measure outcome.units (λ condition e. refused.not_no condition (ap (verdict_of limit batch) whole ∙ e))
    ∙ ap (λ (x : Outcome). sums_of (verdict_of limit batch x)) (sym whole)

yes_where_fit : (judgement : Verdict) (holds : Bool) → ((condition : FailedCondition) → judgement ≡ Refused condition → ⊥) → Ok holds ≡ sums_of judgement → judgement ≡ Yes
yes_where_fit Yes holds h e = refl
yes_where_fit (Refused condition) holds h e = absurd (h condition refl)
yes_where_fit (TooWide w) holds h e = cc

pub sums_that_fit_pass : SumsThatFitPass
sums_that_fit_pass batch outcome cover measure r holds o refused fits =
    yes_where_fit (verdict_of limit batch outcome) holds refused.not_no (sym fits ∙ sums_decide batch outcome cover measure r o refused)
