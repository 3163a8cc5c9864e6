-- What the judgement of a proposal shows: each condition in its order, and then the bound.
use Rattle.std.proofs.Common.{◌≡◌, ◌≢◌, ◌+◌, Bool, true, false, ◌&&◌, List, [], ◌∷◌, map, All, Result, Ok, Err, IfOk, IfErr, refl, ap, sym, subst, ◌∙◌}
use Rattle.std.proofs.lemmas.List.Elements.{All-nil, All-cons}
use Rattle.std.proofs.lemmas.Bool.{and_from, and_parts}
use Rattle.exact_num.specs.declared.misfit.Wide.{Wide as Misfit}
use Rattle.exact_num.specs.Fraction.{Fraction, IsLowest}
use Rattle.exact_num.specs.Fits.{after}
use Rattle.exact_num.specs.Steps.{and_then}
use Rattle.exact_num.specs.Tests.{is_same}
use Rattle.exact_num.proofs.Order.{same_parts}
use Rattle.exact_num.proofs.Tested.{same_passes}
use Rattle.frac.specs.declared.frac128.Frac128.{Frac128}
use Rattle.frac.specs.Range.{limit}
use Rattle.frac.specs.Value.{fraction_of}
use Rattle.form.specs.declared.orders.Order.{Order}
use Rattle.form.specs.declared.orders.Batch.{Batch}
use Rattle.sign_tree.specs.Legs.{leg_count}
use Rattle.market_laws.proofs.Bounds.{cover_and_measure_bound}
use Rattle.cert_check.specs.declared.measures.Measure.{Measure}
use Rattle.cert_check.specs.Points.{points_of}
use Rattle.cert_check.specs.MeasureSums.{bound_of}
use Rattle.cert_check.proofs.MeasureSound.{bounds_are_exact, bound_is_lowest, masses_are_exact, weights_lowest}
use Rattle.cert_check.specs.declared.outcome.Mark.{Mark}
use Rattle.cert_check.specs.declared.outcome.Mark.TheVariants.{Optimal, Wide as WideMark, Budget}
use Rattle.cert_check.specs.declared.outcome.FailedCondition.{FailedCondition}
use Rattle.cert_check.specs.declared.outcome.FailedCondition.TheVariants as no
use Rattle.cert_check.specs.declared.outcome.Verdict.{Verdict}
use Rattle.cert_check.specs.declared.outcome.Verdict.TheVariants.{Yes}
use Rattle.cert_check.specs.Conditions.{OnYes, IfNo, conditions_before, is_optimal_mark}
use Rattle.cert_check.specs.Cover.{batch_balances, batch_marked}
use Rattle.cert_check.specs.Events.{check, cover_condition_holds, judge_mark, judge_measure}
use Rattle.cert_check.specs.Shape.{are_fills, cover_fits, has_fills, mark_fits, states_have, has_shape as has_outcome_shape}
use Rattle.cert_check.specs.Tests.{claim_holds, measure_holds}
use Rattle.cert_check.proofs.Decided.{is_true}
use Rattle.cert_check.proofs.Shapes.{fills_met, fills_unmet}
use Rattle.proposal_check.specs.declared.covers.Proposal.{Proposal}
use Rattle.proposal_check.specs.declared.covers.BoundFailure.{BoundFailure}
use Rattle.proposal_check.specs.declared.covers.BoundFailure.TheVariants.{No as Fails, Wide as DoesNotFit}
use Rattle.proposal_check.specs.Conditions.{Meets}
use Rattle.proposal_check.specs.Covers.{fits_batch, is_walkable}
use Rattle.proposal_check.specs.Proposals.{as_fraction, bounded_verdict_of, compared, covered_bound, fitting, has_shape, is_on_underlyings, measured_bound, proposal_bound, proposal_by, proposal_covered, require}
use Rattle.proposal_check.specs.ProposalLaws.{AreMet, CheckedAsVerdicts, HalvesJoin, HasBound, IsFirstUnmetBounded, IsUnproved, MatchesJoin, OptimalIsBounded, ProposalsAreDecided, Proves, as_match, with_measure}
use Rattle.proposal_check.proofs.Covered.{cover_met, cover_unmet, covered}
use Rattle.proposal_check.proofs.Shapes.{Shaped, shape_met, shape_unmet, shaped}

-- ---- what a bound shows
-- the conditions before that of the bound, each by its name
record Met (batch : Batch) (proposal : Proposal) : Type 0 where
  shape : Meets batch proposal no.BatchShape
  fills : Meets batch proposal no.Fill
  cover : Meets batch proposal no.Cover
  mass : Meets batch proposal no.Measure

all_met : (batch : Batch) (proposal : Proposal) → Met batch proposal → AreMet batch proposal
all_met batch proposal m =
    let P = Meets batch proposal in
    All-cons P no.BatchShape (no.Fill ∷ no.Cover ∷ no.Measure ∷ []) m.shape
    (All-cons P no.Fill (no.Cover ∷ no.Measure ∷ []) m.fills (All-cons P no.Cover (no.Measure ∷ []) m.cover (All-cons P no.Measure [] m.mass (All-nil P))))

met_proves : (batch : Batch) (proposal : Proposal) (B : Fraction) → Met batch proposal → bound_of limit batch.orders (points_of proposal.measure) ≡ Ok B → Proves batch proposal B
met_proves batch proposal B m h =
    let points = points_of proposal.measure in
    let low = weights_lowest proposal.measure.points in
    let S = fraction_of proposal.claim.surplus in
    let cover = covered batch proposal m.shape m.fills m.cover in
    let has : HasBound batch proposal B = record {
      is_measure = record { states = m.shape.states; unit = m.mass };
      bound = (bounds_are_exact limit batch.orders points B low h).0;
    } in
    record {
      met = all_met batch proposal m;
      covered = cover;
      measured = has;
      bounds = cover_and_measure_bound batch.underlyings batch.orders (map fraction_of proposal.fills) S B points
          proposal.claim.surplus.lowest.positive (bound_is_lowest limit batch.orders points B low h).positive cover.covers has.is_measure has.bound;
    }

-- ---- the conditions in their order
-- what a judgement says
abbrev Says : Batch → Proposal → Result Fraction BoundFailure → Type 0
Says batch proposal (Ok B) = Proves batch proposal B
Says batch proposal (Err failed) = IsUnproved batch proposal failed

-- one condition and what comes after it
require_says : (says : Result Fraction BoundFailure → Type 0) (k : FailedCondition) (r : Result Bool Misfit) (next : Result Fraction BoundFailure)
    → (r ≡ Ok true → says next) → (r ≡ Ok false → says (Err (Fails k))) → ((w : Misfit) → says (Err (DoesNotFit w))) → says (require k r next)
require_says says k (Ok true) next holds fails wide = holds refl
require_says says k (Ok false) next holds fails wide = fails refl
require_says says k (Err w) next holds fails wide = wide w

-- the condition is the first that is not met
fails_first : (batch : Batch) (proposal : Proposal) (k : FailedCondition) → k ≢ no.Bound → All (Meets batch proposal) (conditions_before k) → ¬ (Meets batch proposal k) → Says batch proposal (Err (Fails k))
fails_first batch proposal k other before unmet = (other, record { before = before; unmet = unmet })

shape_is_not : no.BatchShape ≢ no.Bound
shape_is_not h = absurd (cc)

fill_is_not : no.Fill ≢ no.Bound
fill_is_not h = absurd (cc)

cover_is_not : no.Cover ≢ no.Bound
cover_is_not h = absurd (cc)

measure_is_not : no.Measure ≢ no.Bound
measure_is_not h = absurd (cc)

bound_says : (batch : Batch) (proposal : Proposal) → Met batch proposal → (sum : Result Fraction Misfit) → bound_of limit batch.orders (points_of proposal.measure) ≡ sum → Says batch proposal (fitting sum)
bound_says batch proposal m (Ok B) is = met_proves batch proposal B m is
bound_says batch proposal m (Err w) is = tt

measure_says : (batch : Batch) (proposal : Proposal) → Meets batch proposal no.BatchShape → Meets batch proposal no.Fill → Meets batch proposal no.Cover
    → Says batch proposal (measured_bound limit batch.orders proposal.measure)
measure_says batch proposal shape fills cover =
    let points = points_of proposal.measure in
    let P = Meets batch proposal in
    let masses = masses_are_exact limit points (weights_lowest proposal.measure.points) in
    require_says (Says batch proposal) no.Measure (measure_holds limit points) (fitting (bound_of limit batch.orders points))
    (λ h. bound_says batch proposal (record { shape = shape; fills = fills; cover = cover; mass = masses.0 h }) (bound_of limit batch.orders points) refl)
    (λ h. fails_first batch proposal no.Measure measure_is_not
    (All-cons P no.BatchShape (no.Fill ∷ no.Cover ∷ []) shape (All-cons P no.Fill (no.Cover ∷ []) fills (All-cons P no.Cover [] cover (All-nil P)))) (masses.1 h))
    (λ w. tt)

cover_says : (batch : Batch) (proposal : Proposal) → Shaped batch proposal → Meets batch proposal no.BatchShape → Meets batch proposal no.Fill → Says batch proposal (covered_bound limit batch proposal)
cover_says batch proposal shaped shape fills =
    let P = Meets batch proposal in
    require_says (Says batch proposal) no.Cover (proposal_covered limit batch proposal) (measured_bound limit batch.orders proposal.measure)
    (λ h. measure_says batch proposal shape fills (cover_met batch proposal shaped fills h))
    (λ h. fails_first batch proposal no.Cover cover_is_not (All-cons P no.BatchShape (no.Fill ∷ []) shape (All-cons P no.Fill [] fills (All-nil P))) (cover_unmet batch proposal shaped fills h))
    (λ w. tt)

fills_say : (batch : Batch) (proposal : Proposal) → Shaped batch proposal → Meets batch proposal no.BatchShape
    → Says batch proposal (require no.Fill (Ok (are_fills batch.orders proposal.fills)) (covered_bound limit batch proposal))
fills_say batch proposal shaped shape =
    let P = Meets batch proposal in
    require_says (Says batch proposal) no.Fill (Ok (are_fills batch.orders proposal.fills)) (covered_bound limit batch proposal)
    (λ h. cover_says batch proposal shaped shape (fills_met batch.orders proposal.fills shape.fills (is_true (are_fills batch.orders proposal.fills) true h)))
    (λ h. fails_first batch proposal no.Fill fill_is_not (All-cons P no.BatchShape [] shape (All-nil P)) (fills_unmet batch.orders proposal.fills (is_true (are_fills batch.orders proposal.fills) false h)))
    (λ w. tt)

judgement_says : (batch : Batch) (proposal : Proposal) → Says batch proposal (proposal_bound limit batch proposal)
judgement_says batch proposal =
    let P = Meets batch proposal in
    require_says (Says batch proposal) no.BatchShape (Ok (has_shape batch proposal)) (require no.Fill (Ok (are_fills batch.orders proposal.fills)) (covered_bound limit batch proposal))
    (λ h. let passes = is_true (has_shape batch proposal) true h in fills_say batch proposal (shaped batch proposal passes) (shape_met batch proposal passes))
    (λ h. fails_first batch proposal no.BatchShape shape_is_not (All-nil P) (shape_unmet batch proposal (is_true (has_shape batch proposal) false h)))
    (λ w. tt)

proves : (batch : Batch) (proposal : Proposal) (B : Fraction) → proposal_bound limit batch proposal ≡ Ok B → Proves batch proposal B
proves batch proposal B h = subst (Says batch proposal) h (judgement_says batch proposal)

unproved : (batch : Batch) (proposal : Proposal) (failed : BoundFailure) → proposal_bound limit batch proposal ≡ Err failed → IsUnproved batch proposal failed
unproved batch proposal failed h = subst (Says batch proposal) h (judgement_says batch proposal)

pub proposals_are_decided : ProposalsAreDecided
proposals_are_decided batch proposal = record { proved = proves batch proposal; unproved = unproved batch proposal }

-- so of what the code answers
pub on_bound : (P : Fraction → Type 0) (batch : Batch) (proposal : Proposal) (r : Result Frac128 BoundFailure) → ((B : Fraction) → Proves batch proposal B → P B)
    → as_fraction r ≡ proposal_bound limit batch proposal → IfOk r (λ bound. P (fraction_of bound))
on_bound P batch proposal (Ok bound) then is = then (fraction_of bound) (proves batch proposal (fraction_of bound) (sym is))
on_bound P batch proposal (Err failed) then is = tt

pub on_failed : (batch : Batch) (proposal : Proposal) (r : Result Frac128 BoundFailure) → as_fraction r ≡ proposal_bound limit batch proposal → IfErr r (IsUnproved batch proposal)
on_failed batch proposal (Ok bound) is = tt
on_failed batch proposal (Err failed) is = unproved batch proposal failed (sym is)

-- where shape and fills pass, what is left is the cover and the bound
pub from_cover : (batch : Batch) (proposal : Proposal) → has_shape batch proposal ≡ true → are_fills batch.orders proposal.fills ≡ true → proposal_bound limit batch proposal ≡ covered_bound limit batch proposal
from_cover batch proposal shape fills =
    let last = covered_bound limit batch proposal in
    ap (λ (t : Bool). require no.BatchShape (Ok t) (require no.Fill (Ok (are_fills batch.orders proposal.fills)) last)) shape
    ∙ ap (λ (t : Bool). require no.Fill (Ok t) last) fills

-- ---- the steps of a bound
-- what comes after a condition that holds
after_required : (k : FailedCondition) (r : Result Bool Misfit) (next : Result Fraction BoundFailure) (B : Fraction) → require k r next ≡ Ok B → (r ≡ Ok true) × (next ≡ Ok B)
after_required k (Ok true) next B h = (refl, h)
after_required k (Ok false) next B h = absurd (cc)
after_required k (Err w) next B h = absurd (cc)

of_fitting : (sum : Result Fraction Misfit) (B : Fraction) → fitting sum ≡ Ok B → sum ≡ Ok B
of_fitting (Ok bound) B h = cc
of_fitting (Err w) B h = absurd (cc)

-- the states of a shape that passes
states_of : (batch : Batch) (proposal : Proposal) → has_shape batch proposal ≡ true → states_have (batch.underlyings + 1) proposal.measure.points ≡ true
states_of batch proposal h =
    let on = and_parts (is_on_underlyings batch proposal) (fits_batch batch proposal.cover) h in
    (and_parts (has_fills batch proposal.fills) (states_have (batch.underlyings + 1) proposal.measure.points) on.0).1

record Passed (batch : Batch) (proposal : Proposal) (B : Fraction) : Type 0 where
  shape : ◌≡◌ {A = Result Bool Misfit} (Ok (has_shape batch proposal)) (Ok true)
  fills : ◌≡◌ {A = Result Bool Misfit} (Ok (are_fills batch.orders proposal.fills)) (Ok true)
  cover : proposal_covered limit batch proposal ≡ Ok true
  measured : measured_bound limit batch.orders proposal.measure ≡ Ok B

passed : (batch : Batch) (proposal : Proposal) (B : Fraction) → proposal_bound limit batch proposal ≡ Ok B → Passed batch proposal B
passed batch proposal B h =
    let cover = proposal_covered limit batch proposal in
    let last = measured_bound limit batch.orders proposal.measure in
    let a = after_required no.BatchShape (Ok (has_shape batch proposal)) (require no.Fill (Ok (are_fills batch.orders proposal.fills)) (require no.Cover cover last)) B h in
    let b = after_required no.Fill (Ok (are_fills batch.orders proposal.fills)) (require no.Cover cover last) B a.1 in
    let c = after_required no.Cover cover last B b.1 in
    record { shape = a.0; fills = b.0; cover = c.0; measured = c.1 }

-- the sum that is the bound
sum_of : (batch : Batch) (proposal : Proposal) (B : Fraction) → proposal_bound limit batch proposal ≡ Ok B → bound_of limit batch.orders (points_of proposal.measure) ≡ Ok B
sum_of batch proposal B h =
    let sum = bound_of limit batch.orders (points_of proposal.measure) in
    of_fitting sum B (after_required no.Measure (measure_holds limit (points_of proposal.measure)) (fitting sum) B (passed batch proposal B h).measured).1

proved_lowest : (batch : Batch) (proposal : Proposal) (B : Fraction) → proposal_bound limit batch proposal ≡ Ok B → IsLowest B
proved_lowest batch proposal B h =
    bound_is_lowest limit batch.orders (points_of proposal.measure) B (weights_lowest proposal.measure.points) (sum_of batch proposal B h)

-- ---- the bound that is told
abbrev pub ShowsBounded : Batch → Proposal → Fraction → Verdict → Type 0
ShowsBounded batch proposal B judgement = OnYes judgement (Proves batch proposal B) × IfNo judgement (IsFirstUnmetBounded batch proposal B)

bound_shows : (batch : Batch) (proposal : Proposal) (A B : Fraction) → IsLowest B → proposal_bound limit batch proposal ≡ Ok A
    → (t : Bool) → is_same A B ≡ t → ShowsBounded batch proposal B (check no.Bound (Ok t) Yes)
bound_shows batch proposal A B low h true test =
    (subst (Proves batch proposal) (same_parts A B (proved_lowest batch proposal A h) low test) (proves batch proposal A h), tt)
bound_shows batch proposal A B low h false test = (
  tt,
  (
    (proves batch proposal A h).met,
    λ has.
        let exact = bounds_are_exact limit batch.orders (points_of proposal.measure) A (weights_lowest proposal.measure.points) (sum_of batch proposal A h) in
        let passes = same_passes A B (sym (exact.1 B has.bound)) in
        cc (passes, test),
  ),
)

first_unmet : (batch : Batch) (proposal : Proposal) (B : Fraction) (k : FailedCondition) → IsUnproved batch proposal (Fails k) → IsFirstUnmetBounded batch proposal B k
first_unmet batch proposal B no.BatchShape is = is.1
first_unmet batch proposal B no.Fill is = is.1
first_unmet batch proposal B no.Cover is = is.1
first_unmet batch proposal B no.Measure is = is.1
first_unmet batch proposal B no.Bound is = absurd (is.0 refl)

compared_shows : (batch : Batch) (proposal : Proposal) (B : Fraction) → IsLowest B → (r : Result Fraction BoundFailure) → proposal_bound limit batch proposal ≡ r → ShowsBounded batch proposal B (compared r B)
compared_shows batch proposal B low (Ok A) h = bound_shows batch proposal A B low h (is_same A B) refl
compared_shows batch proposal B low (Err (Fails k)) h = (tt, first_unmet batch proposal B k (unproved batch proposal (Fails k) h))
compared_shows batch proposal B low (Err (DoesNotFit w)) h = (tt, tt)

pub bounded_shows : (batch : Batch) (proposal : Proposal) (B : Frac128) (judgement : Verdict) → judgement ≡ bounded_verdict_of limit batch proposal (fraction_of B)
    → ShowsBounded batch proposal (fraction_of B) judgement
bounded_shows batch proposal B judgement is =
    subst (ShowsBounded batch proposal (fraction_of B)) (sym is) (compared_shows batch proposal (fraction_of B) B.lowest (proposal_bound limit batch proposal) refl)

-- ---- as a verdict judges
pub checked_as_verdicts : CheckedAsVerdicts
checked_as_verdicts batch fills claim cover measure no.BatchShape walked = (
  (λ is. record { orders = is.orders; fills = is.fills; mark = (is.cover.0, is.states) }),
  (λ is. record { orders = is.orders; fills = is.fills; cover = (is.mark.0, walked); states = is.mark.1 }),
)
checked_as_verdicts batch fills claim cover measure no.Fill walked = ((λ is. is), (λ is. is))
checked_as_verdicts batch fills claim cover measure no.Cover walked = ((λ is. is), (λ is. is))
checked_as_verdicts batch fills claim cover measure no.Measure walked = ((λ is. is), (λ is. is))
checked_as_verdicts batch fills claim cover measure no.Bound walked = ((λ is. is), (λ is. is))

-- a condition that is required is one that is checked
required_is_checked : (k : FailedCondition) (r : Result Bool Misfit) (next : Result Fraction BoundFailure) (B : Fraction) → compared (require k r next) B ≡ check k r (compared next B)
required_is_checked k (Ok true) next B = refl
required_is_checked k (Ok false) next B = refl
required_is_checked k (Err w) next B = refl

bound_is_checked : (sum : Result Fraction Misfit) (B : Fraction) → compared (fitting sum) B ≡ check no.Bound (after sum (λ bound. Ok (is_same bound B))) Yes
bound_is_checked (Ok bound) B = refl
bound_is_checked (Err w) B = refl

measure_is_checked : (orders : List Order) (B : Fraction) (measure : Measure) → compared (measured_bound limit orders measure) B ≡ judge_measure limit orders B measure
measure_is_checked orders B measure =
    let holds = measure_holds limit (points_of measure) in
    let sum = bound_of limit orders (points_of measure) in
    required_is_checked no.Measure holds (fitting sum) B ∙ ap (check no.Measure holds) (bound_is_checked sum B)

-- the tests of the shape in their two orders, where the tree is walked
same_shape : (filled states cover walked : Bool) → walked ≡ true → ((filled && states) && (cover && walked)) ≡ (filled && (cover && states))
same_shape false states cover walked h = refl
same_shape true false true walked h = refl
same_shape true false false walked h = refl
same_shape true true true walked h = h
same_shape true true false walked h = refl

pub optimal_is_bounded : OptimalIsBounded
optimal_is_bounded batch fills claim cover measure walked =
    let n = batch.underlyings in
    let proposal = proposal_by fills claim cover measure in
    let S = fraction_of claim.surplus in
    let shape : Result Bool Misfit = Ok (has_shape batch proposal) in
    let filled : Result Bool Misfit = Ok (are_fills batch.orders fills) in
    let shows = proposal_covered limit batch proposal in
    let last = measured_bound limit batch.orders measure in
    let same = same_shape (has_fills batch fills) (states_have (n + 1) measure.points) (cover_fits n cover) (is_walkable (leg_count batch.orders) cover) walked in
    sym (
    required_is_checked no.BatchShape shape (require no.Fill filled (require no.Cover shows last)) S
    ∙ ap (check no.BatchShape shape) (required_is_checked no.Fill filled (require no.Cover shows last) S
    ∙ ap (check no.Fill filled) (required_is_checked no.Cover shows last S
    ∙ ap (check no.Cover shows) (measure_is_checked batch.orders S measure)))
    ∙ ap (λ (t : Bool). check no.BatchShape (Ok t) (check no.Fill filled (check no.Cover shows (judge_measure limit batch.orders S measure)))) same
    )

-- ---- two proposals
-- the shape of the one with the states of the other
shapes_join : (filled states cover others : Bool) → ((filled && states) && cover) ≡ true → others ≡ true → ((filled && others) && cover) ≡ true
shapes_join filled states cover others h k =
    let outer = and_parts (filled && states) cover h in
    let inner = and_parts filled states outer.0 in
    and_from (filled && others) cover (and_from filled others inner.0 k) outer.1

required : (k : FailedCondition) (r : Result Bool Misfit) (next : Result Fraction BoundFailure) (B : Fraction) → r ≡ Ok true → next ≡ Ok B → require k r next ≡ Ok B
required k r next B holds is = ap (λ (t : Result Bool Misfit). require k t next) holds ∙ is

pub halves_join : HalvesJoin
halves_join batch one other A B h k =
    let entries = batch.underlyings + 1 in
    let a = passed batch one A h in
    let b = passed batch other B k in
    let shape = shapes_join (has_fills batch one.fills) (states_have entries one.measure.points) (fits_batch batch one.cover) (states_have entries other.measure.points)
    (is_true (has_shape batch one) true a.shape) (states_of batch other (is_true (has_shape batch other) true b.shape)) in
    let joined = with_measure one other.measure in
    let cover = proposal_covered limit batch joined in
    let last = measured_bound limit batch.orders other.measure in
    let fills : Result Bool Misfit = Ok (are_fills batch.orders one.fills) in
    required no.BatchShape (Ok (has_shape batch joined)) (require no.Fill fills (require no.Cover cover last)) B (ap (λ (t : Bool). Ok t) shape)
    (required no.Fill fills (require no.Cover cover last) B a.fills (required no.Cover cover last B a.cover b.measured))

-- ---- an outcome without a certificate
-- what comes after a condition that is checked
after_checked : (k : FailedCondition) (r : Result Bool Misfit) (next : Verdict) → check k r next ≡ Yes → (r ≡ Ok true) × (next ≡ Yes)
after_checked k (Ok true) next h = (refl, h)
after_checked k (Ok false) next h = absurd (cc)
after_checked k (Err w) next h = absurd (cc)

unmarked : (batch : Batch) (fills : List Frac128) (L : Frac128) (mark : Mark) → is_optimal_mark mark ≡ false → batch_marked limit batch fills L mark ≡ batch_balances limit batch.orders fills L
unmarked batch fills L (Optimal cover measure) h = absurd (cc)
unmarked batch fills L (WideMark w) h = refl
unmarked batch fills L Budget h = refl

pub matches_join : MatchesJoin
matches_join batch outcome other B none h k =
    let joined = as_match outcome other.measure in
    let fills : Result Bool Misfit = Ok (are_fills batch.orders outcome.fills) in
    let covered = cover_condition_holds limit batch outcome in
    let marked = judge_mark limit batch.orders (fraction_of outcome.claim.surplus) outcome.mark in
    let a = after_checked no.BatchShape (Ok (has_outcome_shape batch outcome)) (check no.Fill fills (check no.Cover covered marked)) h in
    let b = after_checked no.Fill fills (check no.Cover covered marked) a.1 in
    let c = after_checked no.Cover covered marked b.1 in
    let proved = passed batch other B k in
    let filled = (and_parts (has_fills batch outcome.fills) (mark_fits batch.underlyings outcome.mark) (is_true (has_outcome_shape batch outcome) true a.0)).0 in
    let on = and_from (has_fills batch outcome.fills) (states_have (batch.underlyings + 1) other.measure.points) filled (states_of batch other (is_true (has_shape batch other) true proved.shape)) in
    let shape : has_shape batch joined ≡ true = and_from (is_on_underlyings batch joined) true on refl in
    let balanced = ap (and_then (claim_holds limit batch.orders outcome.fills outcome.claim)) (sym (unmarked batch outcome.fills outcome.claim.liability outcome.mark none)) ∙ c.0 in
    let cover = proposal_covered limit batch joined in
    let last = measured_bound limit batch.orders other.measure in
    required no.BatchShape (Ok (has_shape batch joined)) (require no.Fill fills (require no.Cover cover last)) B (ap (λ (t : Bool). Ok t) shape)
    (required no.Fill fills (require no.Cover cover last) B b.0 (required no.Cover cover last B balanced proved.measured))
