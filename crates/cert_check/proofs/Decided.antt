-- A verdict decides the conditions of the model: a yes meets each, and a no has the first that is
-- not met.
use Rattle.std.proofs.Common.{◌≡◌, Bool, true, false, List, [], ◌∷◌, map, zip, All, Result, Ok, Err, refl, sym, subst, inl, inr}
use Rattle.std.proofs.lemmas.List.Elements.{All-nil, All-cons}
use Rattle.market_laws.proofs.Certificate.{fills_not_below}
use Rattle.exact_num.specs.declared.misfit.Wide.{Wide as Misfit}
use Rattle.exact_num.proofs.After.{after_value}
use Rattle.frac.specs.declared.frac128.Frac128.{Frac128}
use Rattle.frac.specs.Range.{limit}
use Rattle.frac.specs.Value.{fraction_of}
use Rattle.form.specs.declared.orders.Order.{Order}
use Rattle.form.specs.declared.orders.Batch.{Batch}
use Rattle.clearing_model.specs.Certificate.{AreFractionFills, HasUnitMass, MeasureProves}
use Rattle.line_cover.proofs.Sound.{lines_that_hold_close, lines_that_fail_do_not_close}
use Rattle.frac.proofs.Lowest.{lowest_of}
use Rattle.exact_num.proofs.Loops.{both, not_both}
use Rattle.exact_num.proofs.Order.{same_parts}
use Rattle.sign_tree.specs.Read.{node_of, placed_of}
use Rattle.sign_tree.proofs.Sound.{walks_close_trees}
use Rattle.sign_tree.proofs.Refuted.{open_walks_close_no_tree}
use Rattle.sign_tree.proofs.Decided.{multipliers_lowest}
use Rattle.cert_check.specs.declared.measures.Measure.{Measure}
use Rattle.cert_check.specs.Points.{point_of}
use Rattle.cert_check.specs.MeasureSums.{has_unit_mass, bound_of}
use Rattle.exact_num.specs.Tests.{is_same}
use Rattle.cert_check.proofs.MeasureSound.{masses_are_exact, bounds_are_exact, bound_is_lowest, weights_lowest}
use Rattle.exact_num.proofs.Tested.{same_passes}
use Rattle.cert_check.specs.declared.outcome.Cover.{Cover}
use Rattle.cert_check.specs.declared.outcome.Cover.TheVariants.{Line, Tree}
use Rattle.cert_check.specs.declared.outcome.Mark.{Mark}
use Rattle.cert_check.specs.declared.outcome.Mark.TheVariants.{Optimal, Wide, Budget}
use Rattle.cert_check.specs.declared.outcome.FailedCondition.{FailedCondition}
use Rattle.cert_check.specs.declared.outcome.FailedCondition.TheVariants as no
use Rattle.cert_check.specs.declared.outcome.Outcome.{Outcome}
use Rattle.cert_check.specs.declared.outcome.Verdict.{Verdict}
use Rattle.cert_check.specs.declared.outcome.Verdict.TheVariants.{Yes, No as Refused, Wide as TooWide}
use Rattle.cert_check.specs.Shape.{has_shape, are_fills}
use Rattle.cert_check.specs.Cover.{mark_covers}
use Rattle.cert_check.specs.Tests.{surplus_holds, bound_holds}
use Rattle.cert_check.specs.Events.{check, judge_mark, cover_condition_holds}
use Rattle.cert_check.specs.Conditions.{IfOptimal, IsEnough, LeavesSurplus, Meets}
use Rattle.cert_check.specs.Laws.{Says, VerdictsDecide}
use Rattle.cert_check.proofs.Shapes.{shape_met, shape_unmet, fills_met, fills_unmet}
use Rattle.cert_check.proofs.Surplus.{surplus_is, surplus_is_not}
use Rattle.cert_check.proofs.Fallback.{fallback_is, fallback_is_not}

pub enough : (batch : Batch) (fs : List Frac128) (L : Frac128) (mark : Mark) → AreFractionFills batch.orders (map fraction_of fs)
    → mark_covers limit batch.underlyings batch.orders (map fraction_of fs) (fraction_of L) mark ≡ Ok true
    → IsEnough batch.underlyings batch.orders (map fraction_of fs) (fraction_of L) mark
enough batch fs L (Optimal Line measure) are h =
    lines_that_hold_close limit batch.orders (map fraction_of fs) (fraction_of L) are.0 (lowest_of fs) L.lowest h
enough batch fs L (Optimal (Tree tree) measure) are h =
    walks_close_trees limit batch.underlyings batch.orders (map fraction_of fs) (fraction_of L) (map node_of tree.nodes) (map placed_of tree.multipliers) are.0 (lowest_of fs)
    (fills_not_below batch.orders (map fraction_of fs) are.1 are.0) L.lowest (multipliers_lowest tree.multipliers) h
enough batch fs L (Wide w) are h = fallback_is batch.orders (map fraction_of fs) (fraction_of L) are (lowest_of fs) L.lowest h
enough batch fs L Budget are h = fallback_is batch.orders (map fraction_of fs) (fraction_of L) are (lowest_of fs) L.lowest h

pub not_enough : (batch : Batch) (fs : List Frac128) (L : Frac128) (mark : Mark) → AreFractionFills batch.orders (map fraction_of fs)
    → mark_covers limit batch.underlyings batch.orders (map fraction_of fs) (fraction_of L) mark ≡ Ok false
    → ¬ (IsEnough batch.underlyings batch.orders (map fraction_of fs) (fraction_of L) mark)
not_enough batch fs L (Optimal Line measure) are h =
    lines_that_fail_do_not_close limit batch.orders (map fraction_of fs) (fraction_of L) are.0 (lowest_of fs) L.lowest h
not_enough batch fs L (Optimal (Tree tree) measure) are h =
    open_walks_close_no_tree limit batch.underlyings batch.orders (map fraction_of fs) (fraction_of L) (map node_of tree.nodes) (map placed_of tree.multipliers) are.0 (lowest_of fs)
    (fills_not_below batch.orders (map fraction_of fs) are.1 are.0) L.lowest (multipliers_lowest tree.multipliers) h
not_enough batch fs L (Wide w) are h = fallback_is_not batch.orders (map fraction_of fs) (fraction_of L) are (lowest_of fs) h
not_enough batch fs L Budget are h = fallback_is_not batch.orders (map fraction_of fs) (fraction_of L) are (lowest_of fs) h

-- the steps of the condition Cover
abbrev surplus_step : Batch → Outcome → Result Bool Misfit
surplus_step batch outcome = surplus_holds limit (zip batch.orders (map fraction_of outcome.fills)) (fraction_of outcome.claim.liability) (fraction_of outcome.claim.surplus)

abbrev mark_step : Batch → Outcome → Result Bool Misfit
mark_step batch outcome = mark_covers limit batch.underlyings batch.orders (map fraction_of outcome.fills) (fraction_of outcome.claim.liability) outcome.mark

cover_met : (batch : Batch) (outcome : Outcome) → Meets batch outcome no.Fill → cover_condition_holds limit batch outcome ≡ Ok true → Meets batch outcome no.Cover
cover_met batch outcome are h =
    let parts = both (surplus_step batch outcome) (mark_step batch outcome) h in
    let surplus = surplus_is batch.orders (map fraction_of outcome.fills) (fraction_of outcome.claim.liability) (fraction_of outcome.claim.surplus) (lowest_of outcome.fills) outcome.claim.liability.lowest outcome.claim.surplus.lowest parts.0 in
    let leaves : LeavesSurplus batch outcome = record { left = surplus.0; not_below_zero = surplus.1 } in
    (leaves, enough batch outcome.fills outcome.claim.liability outcome.mark are parts.1)

cover_unmet : (batch : Batch) (outcome : Outcome) → Meets batch outcome no.Fill → cover_condition_holds limit batch outcome ≡ Ok false → ¬ (Meets batch outcome no.Cover)
cover_unmet batch outcome are h meets =
    elim (not_both (surplus_step batch outcome) (mark_step batch outcome) h) [
      | inl surplus ↦ surplus_is_not batch.orders (map fraction_of outcome.fills) (fraction_of outcome.claim.liability) (fraction_of outcome.claim.surplus) (lowest_of outcome.fills) outcome.claim.liability.lowest surplus meets.0.left meets.0.not_below_zero
      | inr mark ↦ not_enough batch outcome.fills outcome.claim.liability outcome.mark are mark.1 meets.1
    ]

bound_met : (orders : List Order) (measure : Measure) (S : Frac128) → bound_holds limit orders (map point_of measure.points) (fraction_of S) ≡ Ok true → MeasureProves orders (map point_of measure.points) (fraction_of S)
bound_met orders measure S h =
    let points = map point_of measure.points in
    let b = after_value (bound_of limit orders points) (λ bound. Ok (is_same bound (fraction_of S))) true h in
    let test : is_same b.value (fraction_of S) ≡ true = cc (b.rest) in
    let low = bound_is_lowest limit orders points b.value (weights_lowest measure.points) b.first in
    subst (MeasureProves orders points) (same_parts b.value (fraction_of S) low S.lowest test) (bounds_are_exact limit orders points b.value (weights_lowest measure.points) b.first).0

bound_unmet : (orders : List Order) (measure : Measure) (S : Frac128) → bound_holds limit orders (map point_of measure.points) (fraction_of S) ≡ Ok false → ¬ (MeasureProves orders (map point_of measure.points) (fraction_of S))
bound_unmet orders measure S h proves =
    let points = map point_of measure.points in
    let b = after_value (bound_of limit orders points) (λ bound. Ok (is_same bound (fraction_of S))) false h in
    let test : is_same b.value (fraction_of S) ≡ false = cc (b.rest) in
    let same = (bounds_are_exact limit orders points b.value (weights_lowest measure.points) b.first).1 (fraction_of S) proves in
    let passes = same_passes b.value (fraction_of S) (sym same) in
    cc (passes, test)

-- one condition and what comes after it
check_says : (says : Verdict → Type 0) (k : FailedCondition) (r : Result Bool Misfit) (next : Verdict) → (r ≡ Ok true → says next) → (r ≡ Ok false → says (Refused k)) → ((w : Misfit) → says (TooWide w)) → says (check k r next)
check_says says k (Ok true) next holds fails wide = holds refl
check_says says k (Ok false) next holds fails wide = fails refl
check_says says k (Err w) next holds fails wide = wide w

pub is_true : (b t : Bool) → ◌≡◌ {A = Result Bool Misfit} (Ok b) (Ok t) → b ≡ t
is_true b t h = cc

-- a fact of the mark optimal, and of a mark that is none
pub at_optimal : (mark : Mark) (cover : Cover) (measure : Measure) (P : Cover → Measure → Type 0) → mark ≡ Optimal cover measure → P cover measure → IfOptimal mark P
at_optimal mark cover measure P is h = subst (λ m. IfOptimal m P) (sym is) h

of_optimal : (mark : Mark) (cover : Cover) (measure : Measure) (P : Cover → Measure → Type 0) → mark ≡ Optimal cover measure → IfOptimal mark P → P cover measure
of_optimal mark cover measure P is h = subst (λ m. IfOptimal m P) is h

abbrev UnitMass : Cover → Measure → Type 0
UnitMass cover measure = HasUnitMass (map point_of measure.points)

abbrev BoundIs : Batch → Outcome → Cover → Measure → Type 0
BoundIs batch outcome cover measure = MeasureProves batch.orders (map point_of measure.points) (fraction_of outcome.claim.surplus)

-- the conditions that were met so far
record MetBefore (batch : Batch) (outcome : Outcome) : Type 0 where
  shape : Meets batch outcome no.BatchShape
  fills : Meets batch outcome no.Fill
  cover : Meets batch outcome no.Cover

first_three : (batch : Batch) (outcome : Outcome) (rest : List FailedCondition) → MetBefore batch outcome → All (Meets batch outcome) rest → All (Meets batch outcome) (no.BatchShape ∷ no.Fill ∷ no.Cover ∷ rest)
first_three batch outcome rest met others =
    let P = Meets batch outcome in
    All-cons P no.BatchShape (no.Fill ∷ no.Cover ∷ rest) met.shape (All-cons P no.Fill (no.Cover ∷ rest) met.fills (All-cons P no.Cover rest met.cover others))

one_more : (batch : Batch) (outcome : Outcome) (k : FailedCondition) (rest : List FailedCondition) → Meets batch outcome k → All (Meets batch outcome) rest → All (Meets batch outcome) (k ∷ rest)
one_more batch outcome k rest meets others = All-cons (Meets batch outcome) k rest meets others

none : (batch : Batch) (outcome : Outcome) → All (Meets batch outcome) []
none batch outcome = All-nil (Meets batch outcome)

optimal_says : (batch : Batch) (outcome : Outcome) (cover : Cover) (measure : Measure) → outcome.mark ≡ Optimal cover measure → MetBefore batch outcome
    → Says batch outcome (judge_mark limit batch.orders (fraction_of outcome.claim.surplus) (Optimal cover measure))
optimal_says batch outcome cover measure is met =
    let masses = masses_are_exact limit (map point_of measure.points) (weights_lowest measure.points) in
    let bound = λ (mass : Meets batch outcome no.Measure).
    check_says (Says batch outcome) no.Bound (bound_holds limit batch.orders (map point_of measure.points) (fraction_of outcome.claim.surplus)) Yes
    (λ h. (first_three batch outcome (no.Measure ∷ no.Bound ∷ []) met (one_more batch outcome no.Measure (no.Bound ∷ []) mass (one_more batch outcome no.Bound [] (at_optimal outcome.mark cover measure (BoundIs batch outcome) is (bound_met batch.orders measure outcome.claim.surplus h)) (none batch outcome))), tt))
    (λ h. (
      tt,
      record {
        before = first_three batch outcome (no.Measure ∷ []) met (one_more batch outcome no.Measure [] mass (none batch outcome));
        unmet = λ meets. bound_unmet batch.orders measure outcome.claim.surplus h (of_optimal outcome.mark cover measure (BoundIs batch outcome) is meets);
      },
    ))
    (λ w. (tt, tt)) in
    check_says (Says batch outcome) no.Measure (has_unit_mass limit (map point_of measure.points)) _
    (λ h. bound (at_optimal outcome.mark cover measure UnitMass is (masses.0 h)))
    (λ h. (
      tt,
      record {
        before = first_three batch outcome [] met (none batch outcome);
        unmet = λ meets. masses.1 h (of_optimal outcome.mark cover measure UnitMass is meets);
      },
    ))
    (λ w. (tt, tt))

unmarked_says : (batch : Batch) (outcome : Outcome) → ((P : Cover → Measure → Type 0) → IfOptimal outcome.mark P) → MetBefore batch outcome → Says batch outcome Yes
unmarked_says batch outcome nothing met =
    (first_three batch outcome (no.Measure ∷ no.Bound ∷ []) met (one_more batch outcome no.Measure (no.Bound ∷ []) (nothing UnitMass) (one_more batch outcome no.Bound [] (nothing (BoundIs batch outcome)) (none batch outcome))), tt)

mark_says : (batch : Batch) (outcome : Outcome) (mark : Mark) → outcome.mark ≡ mark → MetBefore batch outcome → Says batch outcome (judge_mark limit batch.orders (fraction_of outcome.claim.surplus) mark)
mark_says batch outcome (Optimal cover measure) is met = optimal_says batch outcome cover measure is met
mark_says batch outcome (Wide w) is met = unmarked_says batch outcome (λ P. subst (λ m. IfOptimal m P) (sym is) tt) met
mark_says batch outcome Budget is met = unmarked_says batch outcome (λ P. subst (λ m. IfOptimal m P) (sym is) tt) met

cover_says : (batch : Batch) (outcome : Outcome) → Meets batch outcome no.BatchShape → Meets batch outcome no.Fill
    → Says batch outcome (check no.Cover (cover_condition_holds limit batch outcome) (judge_mark limit batch.orders (fraction_of outcome.claim.surplus) outcome.mark))
cover_says batch outcome shape fills =
    check_says (Says batch outcome) no.Cover (cover_condition_holds limit batch outcome) _
    (λ h. mark_says batch outcome outcome.mark refl (record { shape = shape; fills = fills; cover = cover_met batch outcome fills h }))
    (λ h. (tt, record { before = one_more batch outcome no.BatchShape (no.Fill ∷ []) shape (one_more batch outcome no.Fill [] fills (none batch outcome)); unmet = cover_unmet batch outcome fills h }))
    (λ w. (tt, tt))

fills_say : (batch : Batch) (outcome : Outcome) → Meets batch outcome no.BatchShape
    → Says batch outcome (check no.Fill (Ok (are_fills batch.orders outcome.fills)) (check no.Cover (cover_condition_holds limit batch outcome) (judge_mark limit batch.orders (fraction_of outcome.claim.surplus) outcome.mark)))
fills_say batch outcome shape =
    check_says (Says batch outcome) no.Fill (Ok (are_fills batch.orders outcome.fills)) _
    (λ h. cover_says batch outcome shape (fills_met batch.orders outcome.fills shape.fills (is_true (are_fills batch.orders outcome.fills) true h)))
    (λ h. (tt, record { before = one_more batch outcome no.BatchShape [] shape (none batch outcome); unmet = fills_unmet batch.orders outcome.fills (is_true (are_fills batch.orders outcome.fills) false h) }))
    (λ w. (tt, tt))

pub verdicts_decide : VerdictsDecide
verdicts_decide batch outcome =
    check_says (Says batch outcome) no.BatchShape (Ok (has_shape batch outcome)) _
    (λ h. fills_say batch outcome (shape_met batch outcome (is_true (has_shape batch outcome) true h)))
    (λ h. (tt, record { before = none batch outcome; unmet = shape_unmet batch outcome (is_true (has_shape batch outcome) false h) }))
    (λ w. (tt, tt))
