-- The verdict on each outcome is yes.
use Rattle.std.proofs.Common.{◌≡◌, refl, ℕ, ◌≤◌, Bool, true, false, if◌then◌else◌, map, sym, ◌∙◌, Result, Ok, Err, arith}
use Rattle.std.specs.List.{zip}
use Rattle.std.proofs.lemmas.List.Elements.{All-weaker}
use Rattle.exact_num.specs.declared.misfit.Wide.{Wide as Misfit}
use Rattle.frac.specs.Range.{limit as largest}
use Rattle.frac.specs.Value.{fraction_of}
use Rattle.form.specs.declared.limits.TheConstants.{MAX_PRICE}
use Rattle.form.specs.declared.orders.Order.{Order}
use Rattle.form.specs.declared.orders.Batch.{Batch}
use Rattle.form.specs.Limits.{IsOrderWithin, IsWithinLimits}
use Rattle.exact_num.specs.Steps.{and_then}
use Rattle.cert_check.specs.declared.outcome.Mark.TheVariants.{Wide, Budget}
use Rattle.cert_check.specs.declared.outcome.FailedCondition.{FailedCondition}
use Rattle.cert_check.specs.declared.outcome.FailedCondition.TheVariants as no
use Rattle.cert_check.specs.declared.outcome.Outcome.{Outcome}
use Rattle.cert_check.specs.declared.outcome.Verdict.TheVariants.{Yes, No as Refused}
use Rattle.cert_check.specs.Conditions.{Meets}
use Rattle.cert_check.specs.Cover.{mark_covers, fallback_holds}
use Rattle.cert_check.specs.Tests.{surplus_holds}
use Rattle.cert_check.specs.Events.{cover_condition_holds, verdict_of}
use Rattle.cert_check.proofs.Yes.{said}
use Rattle.bundle_match.specs.Match.{match_by_bundle}
use Rattle.constraint_generation.proofs.JointRuns.{cleared_passes_the_verdict}
use Rattle.constraint_generation.specs.Answers.{limits_of}
use Rattle.constraint_generation.specs.Run.{CoveredReading}
use Rattle.simplex_run.specs.Ending.{Ending, done, wide_at, no_unit_left, unbounded}
use Rattle.clearing.specs.Outcome.{measure_of, cover_of, optimal_outcome, fallback, has_values, outcome_at, run_of, outcome_of}
use Rattle.clearing.specs.Laws.{OutcomesAreJudgedYes}
use Rattle.clearing.proofs.Fitting.{surplus_fits, balances_fit}
use Rattle.clearing.proofs.Judged.{not_wide, after_fills, is_yes}
use Rattle.clearing.proofs.Outcomes.{IsFallback, is_fallback, amounts_small, wide_meets, budget_meets, claims_the_reading, covers_the_reading, run_is_greatest, are_on}

-- ---- what a run clears
optimal_outcome-yes : (batch : Batch) (s : CoveredReading) (units spent : ℕ) → IsWithinLimits batch → has_values s ≡ true → run_of batch units ≡ done s spent → verdict_of largest batch (optimal_outcome s spent) ≡ Yes
optimal_outcome-yes batch (r, cover) units spent within test run =
    cleared_passes_the_verdict (limits_of largest units) 0 spent batch (r, cover) within.has_forms.some within.has_forms.few (are_on batch within) (omega arith) refl run
    (cover_of cover) (covers_the_reading r cover test) (optimal_outcome (r, cover) spent) (measure_of r.measure)
    (claims_the_reading batch r cover spent within (run_is_greatest batch units spent (r, cover) within run) test)

-- ---- the fallback
-- what meets each condition is not refused
not_refused : (batch : Batch) (outcome : Outcome) → ((condition : FailedCondition) → Meets batch outcome condition) → (k : FailedCondition) → verdict_of largest batch outcome ≡ Refused k → ⊥
not_refused batch outcome meets k e = (said batch outcome (Refused k) e).1.unmet (meets k)

both_fit : (first second : Result Bool Misfit) (w : Misfit) → (first ≡ Err w → ⊥) → (second ≡ Err w → ⊥) → and_then first second ≡ Err w → ⊥
both_fit (Ok true) second w f s e = s e
both_fit (Ok false) second w f s e = cc
both_fit (Err v) second w f s e = f e

cover_fits : (batch : Batch) (outcome : Outcome) (w : Misfit) → IsWithinLimits batch → IsFallback batch.orders outcome
    → mark_covers largest batch.underlyings batch.orders (map fraction_of outcome.fills) (fraction_of outcome.claim.liability) outcome.mark ≡ fallback_holds largest (zip batch.orders (map fraction_of outcome.fills)) batch.orders (fraction_of outcome.claim.liability)
    → cover_condition_holds largest batch outcome ≡ Err w → ⊥
cover_fits batch outcome w within f covers =
    let orders = batch.orders in
    let amounts = match_by_bundle orders in
    let S = fraction_of outcome.claim.surplus in
    let small = amounts_small orders within.orders_within in
    let prices = All-weaker IsOrderWithin (λ (order : Order). order.price ≤ MAX_PRICE) (λ order each. each.price) orders within.orders_within in
    both_fit _ _ w
    (λ e. surplus_fits orders amounts S w within.orders_fit prices small ((λ i. surplus_holds largest (zip orders (sym f.fills i)) (sym f.liability i) S) ∙ e))
    (λ e. balances_fit orders amounts w within.orders_fit small ((λ i. fallback_holds largest (zip orders (sym f.fills i)) orders (sym f.liability i)) ∙ (sym covers ∙ e)))

wide_is_yes : (batch : Batch) (w : Misfit) (units : ℕ) → IsWithinLimits batch → verdict_of largest batch (fallback batch.orders (Wide w) units) ≡ Yes
unfolding fallback
wide_is_yes batch w units within =
    let outcome = fallback batch.orders (Wide w) units in
    is_yes batch outcome (not_refused batch outcome (wide_meets batch w units within))
    (λ v. after_fills batch outcome v (not_wide no.Cover (cover_condition_holds largest batch outcome) Yes v (λ u e. cover_fits batch outcome u within (is_fallback batch (Wide w) units within) refl e) (λ holds e. cc)))

budget_is_yes : (batch : Batch) (units : ℕ) → IsWithinLimits batch → verdict_of largest batch (fallback batch.orders Budget units) ≡ Yes
unfolding fallback
budget_is_yes batch units within =
    let outcome = fallback batch.orders Budget units in
    is_yes batch outcome (not_refused batch outcome (budget_meets batch units within))
    (λ v. after_fills batch outcome v (not_wide no.Cover (cover_condition_holds largest batch outcome) Yes v (λ u e. cover_fits batch outcome u within (is_fallback batch Budget units within) refl e) (λ holds e. cc)))

-- ---- each outcome
at_cleared : (batch : Batch) (units spent : ℕ) (s : CoveredReading) (test : Bool) → has_values s ≡ test → IsWithinLimits batch → run_of batch units ≡ done s spent
    → verdict_of largest batch (if test then optimal_outcome s spent else fallback batch.orders Budget units) ≡ Yes
at_cleared batch units spent s true is within run = optimal_outcome-yes batch s units spent within is run
at_cleared batch units spent s false is within run = budget_is_yes batch units within

at_end : (batch : Batch) (units : ℕ) (end : Ending CoveredReading) → IsWithinLimits batch → run_of batch units ≡ end → verdict_of largest batch (outcome_at batch.orders units end) ≡ Yes
at_end batch units (done s spent) within is = at_cleared batch units spent s (has_values s) refl within is
at_end batch units (wide_at spent w) within is = wide_is_yes batch w spent within
at_end batch units (no_unit_left spent) within is = budget_is_yes batch units within
at_end batch units (unbounded d spent) within is = budget_is_yes batch units within

pub outcomes_are_judged_yes : OutcomesAreJudgedYes
unfolding outcome_of
outcomes_are_judged_yes batch units within = at_end batch units (run_of batch units) within refl
