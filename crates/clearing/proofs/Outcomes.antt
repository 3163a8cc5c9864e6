-- Each outcome meets every condition of a certificate.
use Rattle.std.proofs.Common.{◌≡◌, refl, ℕ, ◌≤◌, Bool, true, false, ◌&&◌, if◌then◌else◌, List, [], ◌∷◌, length, map, get_or, pos, ◌≤ℤ◌, All, ap, ap₂, sym, ◌∙◌, subst, arith}
use Rattle.std.specs.List.{zip, sum}
use Rattle.std.specs.Prelude.{nat_le, nat_lt}
use Rattle.std.proofs.lemmas.Bool.{and_parts, le-leb, lt-ltb}
use Rattle.std.proofs.lemmas.List.{length-map}
use Rattle.std.proofs.lemmas.List.Elements.{All-head, All-tail, All-weaker}
use Rattle.exact_num.specs.declared.misfit.Wide.{Wide as Misfit}
use Rattle.exact_num.specs.Fraction.{Fraction, whole}
use Rattle.frac.specs.Range.{limit as largest}
use Rattle.frac.specs.Value.{fraction_of}
use Rattle.form.specs.declared.limits.TheConstants.{MAX_PRICE, MAX_QUANTITY}
use Rattle.form.specs.declared.orders.Order.{Order}
use Rattle.form.specs.declared.orders.Batch.{Batch}
use Rattle.clearing_model.specs.Clearing.{AreOn, premium}
use Rattle.clearing_model.specs.Certificate.{Point, fraction_weight, AreFractionFills, IsPremiumLessLiability}
use Rattle.form.specs.Limits.{IsOrderWithin, IsWithinLimits}
use Rattle.form.specs.Payoff.{IsState}
use Rattle.form.proofs.BundleLegs.{is_bundle_of}
use Rattle.form.specs.States.{vector_of}
use Rattle.form.specs.StateOf.{state_of, is_state, state_or_first, nine_vector}
use Rattle.cert_check.specs.declared.measures.Measure.{Measure}
use Rattle.cert_check.specs.Points.{point_of}
use Rattle.cert_check.specs.declared.outcome.Cover.{Cover}
use Rattle.cert_check.specs.declared.outcome.Mark.{Mark}
use Rattle.cert_check.specs.declared.outcome.Mark.TheVariants.{Wide, Budget}
use Rattle.cert_check.specs.declared.outcome.FailedCondition.{FailedCondition}
use Rattle.cert_check.specs.declared.outcome.FailedCondition.TheVariants as no
use Rattle.cert_check.specs.declared.outcome.Outcome.{Outcome}
use Rattle.cert_check.specs.Conditions.{IfOptimal, OwesNothing, IsEnough, Meets, conditions}
use Rattle.cert_check.proofs.Certified.{conditions_cover, conditions_measure, conditions_prove}
use Rattle.bundle_match.specs.Match.{match_by_bundle}
use Rattle.bundle_match.specs.Laws.{match_of}
use Rattle.bundle_match.proofs.MatchLaws.{match_is_within, match_is_balanced, match_earns, fills_small}
use Rattle.master_program.specs.Reading.{Reading}
use Rattle.master_program.specs.Certified.{IsGreatestByMeasure}
use Rattle.master_program.specs.Verdict.{IsOutcomeOf, IsNotRefused}
use Rattle.master_program.proofs.Verdict.{line_readings_are_not_refused}
use Rattle.constraint_generation.proofs.Rounds.{rounds_are_not_refused}
use Rattle.constraint_generation.proofs.JointRuns.{cleared_is_greatest}
use Rattle.constraint_generation.specs.Answers.{IsCoverAs, limits_of}
use Rattle.constraint_generation.specs.Laws.{IsGreatestBy}
use Rattle.constraint_generation.specs.Run.{WrittenCover, by_line, by_tree, CoveredReading}
use Rattle.simplex_run.specs.Ending.{Ending, done, wide_at, no_unit_left, unbounded}
use Rattle.clearing.specs.Outcome.{weighted_of, measure_of, tree_of, cover_of, optimal_outcome, fallback, is_value, are_values, multipliers_in, reading_has_values, has_values, outcome_at, run_of, outcome_of}
use Rattle.clearing.specs.Laws.{OutcomesMeetAll, OutcomesAreWithin, OutcomesAreCovered, OutcomesAreMeasured, OptimalIsGreatest}
use Rattle.clearing.proofs.Surplus.{premium_small}
use Rattle.clearing.proofs.Values.{fraction_is, fractions_are, is_cover_of}
use Rattle.clearing.proofs.Wholes.{wholes, whole_is, wholes_are, owes_nothing, premium_is_left, fills_are}

-- each order of a batch within the limits is on its underlyings
pub are_on : (batch : Batch) → IsWithinLimits batch → AreOn batch.underlyings batch.orders
are_on batch within k d lt = is_bundle_of batch.underlyings (get_or batch.orders k d) (within.has_forms.forms k d lt)

-- ---- the fallback
-- its numbers as fractions
pub record IsFallback (orders : List Order) (outcome : Outcome) : Type 0 where
  pub fills : map fraction_of outcome.fills ≡ wholes (match_by_bundle orders)
  pub liability : fraction_of outcome.claim.liability ≡ whole (pos 0)
  pub surplus : fraction_of outcome.claim.surplus ≡ whole (premium (match_of orders))

pub amounts_small : (orders : List Order) → All IsOrderWithin orders → All (λ amount. amount ≤ MAX_QUANTITY) (match_by_bundle orders)
amounts_small orders within =
    fills_small MAX_QUANTITY orders (match_by_bundle orders) (match_is_within orders) (All-weaker IsOrderWithin (λ (order : Order). order.quantity ≤ MAX_QUANTITY) (λ order each. each.quantity) orders within)

pub is_fallback : (batch : Batch) (mark : Mark) (units : ℕ) → IsWithinLimits batch → IsFallback batch.orders (fallback batch.orders mark units)
unfolding fallback
is_fallback batch mark units within =
    let orders = batch.orders in
    let amounts = match_by_bundle orders in
    let small = amounts_small orders within.orders_within in
    let prices = All-weaker IsOrderWithin (λ (order : Order). order.price ≤ MAX_PRICE) (λ order each. each.price) orders within.orders_within in
    let most = premium_small orders amounts within.orders_fit prices small in
    record {
      fills = wholes_are amounts small;
      liability = whole_is (pos 0) (omega arith);
      surplus = whole_is (premium (zip orders amounts)) (omega (arith, most));
    }

fallback_meets : (batch : Batch) (outcome : Outcome) → IsWithinLimits batch → IsFallback batch.orders outcome → ((P : Cover → Measure → Type 0) → IfOptimal outcome.mark P)
    → (OwesNothing batch.orders (map fraction_of outcome.fills) (fraction_of outcome.claim.liability) → IsEnough batch.underlyings batch.orders (map fraction_of outcome.fills) (fraction_of outcome.claim.liability) outcome.mark)
    → (condition : FailedCondition) → Meets batch outcome condition
fallback_meets batch outcome within f unmarked enough no.BatchShape =
    let are = fills_are batch.orders (match_by_bundle batch.orders) (match_is_within batch.orders) in
    record {
      orders = are_on batch within;
      fills = sym (length-map outcome.fills fraction_of) ∙ ap length f.fills ∙ are.0;
      mark = unmarked _;
    }
fallback_meets batch outcome within f unmarked enough no.Fill =
    subst (AreFractionFills batch.orders) (sym f.fills) (fills_are batch.orders (match_by_bundle batch.orders) (match_is_within batch.orders))
fallback_meets batch outcome within f unmarked enough no.Cover =
    let orders = batch.orders in
    let amounts = match_by_bundle orders in
    let L = fraction_of outcome.claim.liability in
    let zero = whole (pos 0) in
    let left = subst (λ fills. IsPremiumLessLiability orders fills L (fraction_of outcome.claim.surplus)) (sym f.fills)
    (subst (λ (l : Fraction). IsPremiumLessLiability orders (wholes amounts) l (fraction_of outcome.claim.surplus)) (sym f.liability)
    (subst (λ (S : Fraction). IsPremiumLessLiability orders (wholes amounts) zero S) (sym f.surplus) (premium_is_left orders amounts))) in
    let owes = subst (λ fills. OwesNothing orders fills L) (sym f.fills)
    (subst (λ (l : Fraction). OwesNothing orders (wholes amounts) l) (sym f.liability) (owes_nothing orders amounts (match_is_balanced orders))) in
    let low : pos 0 ≤ℤ (fraction_of outcome.claim.surplus).numerator = subst (λ (S : Fraction). pos 0 ≤ℤ S.numerator) (sym f.surplus) (match_earns orders) in
    (record { left = left; not_below_zero = low }, enough owes)
fallback_meets batch outcome within f unmarked enough no.Measure = unmarked _
fallback_meets batch outcome within f unmarked enough no.Bound = unmarked _

pub wide_meets : (batch : Batch) (w : Misfit) (units : ℕ) → IsWithinLimits batch → (condition : FailedCondition) → Meets batch (fallback batch.orders (Wide w) units) condition
unfolding fallback
wide_meets batch w units within = fallback_meets batch (fallback batch.orders (Wide w) units) within (is_fallback batch (Wide w) units within) (λ P. tt) (λ owes. owes)

pub budget_meets : (batch : Batch) (units : ℕ) → IsWithinLimits batch → (condition : FailedCondition) → Meets batch (fallback batch.orders Budget units) condition
unfolding fallback
budget_meets batch units within = fallback_meets batch (fallback batch.orders Budget units) within (is_fallback batch Budget units within) (λ P. tt) (λ owes. owes)

-- ---- what a run clears
-- a state of the model is that of the code
made_vector : (z : List ℕ) (b : Bool) (e : is_state z ≡ b) → b ≡ true → vector_of (state_or_first z b e) ≡ z
made_vector z true e t = nine_vector z
made_vector z false e t = cc

vector_is : (n : ℕ) (z : List ℕ) → 1 ≤ n → n ≤ 8 → IsState n z → vector_of (state_of z) ≡ z
unfolding state_of
vector_is n z some few is =
    let least : nat_le 2 (length z) ≡ true = le-leb 2 (length z) (omega (arith, is.0)) in
    let most : nat_le (length z) 9 ≡ true = le-leb (length z) 9 (omega (arith, is.0)) in
    let above : nat_lt 0 (sum z) ≡ true = lt-ltb 0 (sum z) is.1 in
    made_vector z (is_state z) refl (rw (least, most, above) refl)

points_are : (n : ℕ) (points : List Point) → 1 ≤ n → n ≤ 8 → All (λ (point : Point). IsState n point.0) points → are_values (map fraction_weight points) ≡ true → map point_of (map weighted_of points) ≡ points
points_are n [] some few states test = refl
points_are n (p ∷ points) some few states test =
    let P : Point → Type 0 = λ point. IsState n point.0 in
    let parts = and_parts (is_value p.1) (are_values (map fraction_weight points)) test in
    let state = vector_is n p.0 some few (All-head P p points states) in
    ap₂ (λ (x : Point) (xs : List Point). x ∷ xs) (ap₂ (λ (z : List ℕ) (w : Fraction). (z, w)) state (fraction_is p.1 parts.0)) (points_are n points some few (All-tail P p points states) parts.1)

-- whatever covers it, the measure proves it
measured_by : (n : ℕ) (orders : List Order) (r : Reading) (cover : WrittenCover) → IsGreatestBy n orders (r, cover) → IsGreatestByMeasure n orders r
measured_by n orders r by_line greatest = subst (λ (k : ℕ). IsGreatestByMeasure k orders r) (sym greatest.0) greatest.1.by_measure
measured_by n orders r (by_tree tree) greatest = greatest.1.by_measure

pub claims_the_reading : (batch : Batch) (r : Reading) (cover : WrittenCover) (units : ℕ) → IsWithinLimits batch → IsGreatestBy batch.underlyings batch.orders (r, cover) → has_values (r, cover) ≡ true
    → IsOutcomeOf r (optimal_outcome (r, cover) units) (cover_of cover) (measure_of r.measure)
unfolding optimal_outcome
claims_the_reading batch r cover units within greatest test =
    let whole = and_parts (reading_has_values r) (are_values (multipliers_in cover)) test in
    let parts = and_parts (is_value r.liability && is_value r.surplus) (are_values r.fills && are_values (map fraction_weight r.measure)) whole.0 in
    let claim = and_parts (is_value r.liability) (is_value r.surplus) parts.0 in
    let lists = and_parts (are_values r.fills) (are_values (map fraction_weight r.measure)) parts.1 in
    record {
      fills = fractions_are r.fills lists.0;
      liability = fraction_is r.liability claim.0;
      surplus = fraction_is r.surplus claim.1;
      mark = refl;
      points = points_are batch.underlyings r.measure within.has_forms.some within.has_forms.few (measured_by batch.underlyings batch.orders r cover greatest).measure.states lists.1;
    }

pub covers_the_reading : (r : Reading) (cover : WrittenCover) → has_values (r, cover) ≡ true → IsCoverAs cover (cover_of cover)
covers_the_reading r cover test = is_cover_of cover (and_parts (reading_has_values r) (are_values (multipliers_in cover)) test).1

optimal_outcome-not_refused : (batch : Batch) (r : Reading) (cover : WrittenCover) (units : ℕ) → IsWithinLimits batch → IsGreatestBy batch.underlyings batch.orders (r, cover) → has_values (r, cover) ≡ true
    → IsNotRefused batch (optimal_outcome (r, cover) units)
optimal_outcome-not_refused batch r by_line units within greatest test =
    line_readings_are_not_refused batch (optimal_outcome (r, by_line) units) (measure_of r.measure) r greatest.0 (are_on batch within) greatest.1
    (claims_the_reading batch r by_line units within greatest test)
optimal_outcome-not_refused batch r (by_tree tree) units within greatest test =
    let written = covers_the_reading r (by_tree tree) test in
    rounds_are_not_refused batch (optimal_outcome (r, by_tree tree) units) (tree_of tree) (measure_of r.measure) r tree greatest.0 (are_on batch within) greatest.1 written.0 written.1
    (claims_the_reading batch r (by_tree tree) units within greatest test)

-- ---- each outcome
abbrev MeetsAll : Batch → Outcome → Type 0
MeetsAll batch outcome = All (Meets batch outcome) conditions

all_met : (batch : Batch) (outcome : Outcome) → ((condition : FailedCondition) → Meets batch outcome condition) → MeetsAll batch outcome
all_met batch outcome each k d lt = each (get_or conditions k d)

at_cleared : (batch : Batch) (units spent : ℕ) (s : CoveredReading) (test : Bool) → has_values s ≡ test → IsWithinLimits batch → IsGreatestBy batch.underlyings batch.orders s
    → MeetsAll batch (if test then optimal_outcome s spent else fallback batch.orders Budget units)
at_cleared batch units spent s true is within greatest = (optimal_outcome-not_refused batch s.0 s.1 spent within greatest is).meets
at_cleared batch units spent s false is within greatest = all_met batch _ (budget_meets batch units within)

-- what the run of a batch clears is the greatest
pub run_is_greatest : (batch : Batch) (units spent : ℕ) (s : CoveredReading) → IsWithinLimits batch → run_of batch units ≡ done s spent → IsGreatestBy batch.underlyings batch.orders s
run_is_greatest batch units spent s within is =
    cleared_is_greatest (limits_of largest units) batch.underlyings 0 spent batch.orders s within.has_forms.some within.has_forms.few (omega arith) is

at_end : (batch : Batch) (units : ℕ) (end : Ending CoveredReading) → IsWithinLimits batch → run_of batch units ≡ end → MeetsAll batch (outcome_at batch.orders units end)
at_end batch units (done s spent) within is = at_cleared batch units spent s (has_values s) refl within (run_is_greatest batch units spent s within is)
at_end batch units (wide_at spent w) within is = all_met batch _ (wide_meets batch w spent within)
at_end batch units (no_unit_left spent) within is = all_met batch _ (budget_meets batch units within)
at_end batch units (unbounded d spent) within is = all_met batch _ (budget_meets batch units within)

pub outcomes_meet_all : OutcomesMeetAll
unfolding outcome_of
outcomes_meet_all batch units within = at_end batch units (run_of batch units) within refl

pub outcomes_are_within : OutcomesAreWithin
outcomes_are_within batch units within =
    let P = Meets batch (outcome_of batch units) in
    let rest = All-tail P no.BatchShape (no.Fill ∷ no.Cover ∷ no.Measure ∷ no.Bound ∷ []) (outcomes_meet_all batch units within) in
    All-head P no.Fill (no.Cover ∷ no.Measure ∷ no.Bound ∷ []) rest

pub outcomes_are_covered : OutcomesAreCovered
outcomes_are_covered batch units within = conditions_cover batch (outcome_of batch units) (outcomes_meet_all batch units within)

pub outcomes_are_measured : OutcomesAreMeasured
outcomes_are_measured batch units within = conditions_measure batch (outcome_of batch units) (outcomes_meet_all batch units within)

pub optimal_is_greatest : OptimalIsGreatest
optimal_is_greatest batch units within = conditions_prove batch (outcome_of batch units) (outcomes_meet_all batch units within)
