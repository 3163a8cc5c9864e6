-- The verdict: the first event in order decides.
use Rattle.std.specs.Prelude.{ℕ, List, Bool, true, false, Result, Ok, Err}
use Rattle.exact_num.specs.declared.misfit.Wide.{Wide as Misfit}
use Rattle.exact_num.specs.Fraction.{Fraction}
use Rattle.frac.specs.Value.{fraction_of}
use Rattle.form.specs.declared.orders.Order.{Order}
use Rattle.form.specs.declared.orders.Batch.{Batch}
use Rattle.exact_num.specs.Steps.{and_then}
use Rattle.cert_check.specs.declared.measures.Measure.{Measure}
use Rattle.cert_check.specs.Points.{points_of}
use Rattle.cert_check.specs.declared.outcome.Mark.{Mark}
use Rattle.cert_check.specs.declared.outcome.Mark.TheVariants.{Optimal, Wide as WideMark, Budget}
use Rattle.cert_check.specs.declared.outcome.FailedCondition.{FailedCondition}
use Rattle.cert_check.specs.declared.outcome.FailedCondition.TheVariants as no
use Rattle.cert_check.specs.declared.outcome.Verdict.{Verdict}
use Rattle.cert_check.specs.declared.outcome.Verdict.TheVariants.{Yes, No as Refused, Wide}
use Rattle.cert_check.specs.declared.outcome.Outcome.{Outcome}
use Rattle.cert_check.specs.Shape.{has_shape, are_fills}
use Rattle.cert_check.specs.Cover.{batch_marked}
use Rattle.cert_check.specs.Tests.{claim_holds, measure_holds, bound_holds}

-- what comes next where a condition holds
abbrev pub check : FailedCondition → Result Bool Misfit → Verdict → Verdict
check condition (Ok true) next = next
check condition (Ok false) next = Refused condition
check condition (Err w) next = Wide w

-- the bound of the measure is the surplus
abbrev pub judge_bound : ℕ → List Order → Fraction → Measure → Verdict
judge_bound limit orders S measure = check no.Bound (bound_holds limit orders (points_of measure) S) Yes

-- the measure is one, and its bound the surplus
abbrev pub judge_measure : ℕ → List Order → Fraction → Measure → Verdict
judge_measure limit orders S measure =
    check no.Measure (measure_holds limit (points_of measure)) (judge_bound limit orders S measure)

-- with the mark optimal the measure proves the surplus
abbrev pub judge_mark : ℕ → List Order → Fraction → Mark → Verdict
judge_mark limit orders S (Optimal cover measure) = judge_measure limit orders S measure
judge_mark limit orders S (WideMark w) = Yes
judge_mark limit orders S Budget = Yes

-- the surplus is what it should be, and the liability is enough
abbrev pub cover_condition_holds : ℕ → Batch → Outcome → Result Bool Misfit
cover_condition_holds limit batch outcome =
    and_then (claim_holds limit batch.orders outcome.fills outcome.claim)
    (batch_marked limit batch outcome.fills outcome.claim.liability outcome.mark)

-- from the cover on
abbrev pub judge_cover : ℕ → Batch → Outcome → Verdict
judge_cover limit batch outcome =
    check no.Cover (cover_condition_holds limit batch outcome)
    (judge_mark limit batch.orders (fraction_of outcome.claim.surplus) outcome.mark)

-- the conditions in order: shape, fills, cover, measure and bound
abbrev pub verdict_of : ℕ → Batch → Outcome → Verdict
verdict_of limit batch outcome =
    check no.BatchShape (Ok (has_shape batch outcome))
    (check no.Fill (Ok (are_fills batch.orders outcome.fills))
    (judge_cover limit batch outcome))
