-- A verdict is yes where it is no refusal and its steps fit.
use Rattle.std.proofs.Common.{◌≡◌, refl, Bool, true, false, Result, Ok, Err}
use Rattle.exact_num.specs.declared.misfit.Wide.{Wide as Misfit}
use Rattle.frac.specs.Range.{limit as largest}
use Rattle.frac.specs.Value.{fraction_of}
use Rattle.form.specs.declared.orders.Batch.{Batch}
use Rattle.cert_check.specs.declared.outcome.FailedCondition.{FailedCondition}
use Rattle.cert_check.specs.declared.outcome.FailedCondition.TheVariants as no
use Rattle.cert_check.specs.declared.outcome.Outcome.{Outcome}
use Rattle.cert_check.specs.declared.outcome.Verdict.{Verdict}
use Rattle.cert_check.specs.declared.outcome.Verdict.TheVariants.{Yes, No as Refused, Wide as TooWide}
use Rattle.cert_check.specs.Events.{check, cover_condition_holds, judge_mark, verdict_of}
use Rattle.cert_check.specs.Shape.{has_shape, are_fills}

-- a condition whose steps fit is not wide, unless what comes next is
pub not_wide : (k : FailedCondition) (r : Result Bool Misfit) (next : Verdict) (w : Misfit) → ((v : Misfit) → r ≡ Err v → ⊥) → (r ≡ Ok true → next ≡ TooWide w → ⊥) → check k r next ≡ TooWide w → ⊥
not_wide k (Ok true) next w fits more h = more refl h
not_wide k (Ok false) next w fits more h = cc
not_wide k (Err v) next w fits more h = fits v refl

-- neither shape nor fills are wide
pub after_fills : (batch : Batch) (outcome : Outcome) (w : Misfit) → (check no.Cover (cover_condition_holds largest batch outcome) (judge_mark largest batch.orders (fraction_of outcome.claim.surplus) outcome.mark) ≡ TooWide w → ⊥) → verdict_of largest batch outcome ≡ TooWide w → ⊥
after_fills batch outcome w cover h =
    not_wide no.BatchShape (Ok (has_shape batch outcome)) _ w (λ v e. cc)
    (λ shape. not_wide no.Fill (Ok (are_fills batch.orders outcome.fills)) _ w (λ v e. cc) (λ fills. cover)) h

-- what is neither refused nor wide is yes
pub is_yes : (batch : Batch) (outcome : Outcome) → ((k : FailedCondition) → verdict_of largest batch outcome ≡ Refused k → ⊥) → ((w : Misfit) → verdict_of largest batch outcome ≡ TooWide w → ⊥) → verdict_of largest batch outcome ≡ Yes
is_yes batch outcome refused wide = by_judgement (verdict_of largest batch outcome) refl
  where
    by_judgement : (judgement : Verdict) → verdict_of largest batch outcome ≡ judgement → verdict_of largest batch outcome ≡ Yes
    by_judgement Yes e = e
    by_judgement (Refused k) e = absurd (refused k e)
    by_judgement (TooWide w) e = absurd (wide w e)
