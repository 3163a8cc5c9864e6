-- What the tests of the shape and of the fills say.
use Rattle.std.proofs.Common.{◌≡◌, ℕ, ◌+◌, ◌*◌, true, false, ◌==◌, ◌&&◌, List, [], ◌∷◌, length, get_or, map, zip, arith, pos, ◌≤ℤ◌, ◌*ℤ◌, All, refl, sym, ◌∙◌, eqb-true}
use Rattle.std.proofs.lemmas.Bool.{and_from, and_parts, eq-eqb, lt-ltb, ltb-true}
use Rattle.std.proofs.lemmas.Int.{ints}
use Rattle.std.proofs.lemmas.List.{length-map}
use Rattle.std.proofs.lemmas.List.Elements.{All-cons, All-head, All-nil, All-tail}
use Rattle.std.proofs.lemmas.List.Sums.{AllPass-from_list_all, list_all-from_AllPass}
use Rattle.arithmetic.proofs.Sums.{All-of_map, All-to_map}
use Rattle.exact_num.specs.Fraction.{whole}
use Rattle.frac.specs.declared.frac128.Frac128.{Frac128}
use Rattle.frac.specs.Value.{fraction_of}
use Rattle.form.specs.declared.orders.Order.{Order}
use Rattle.form.specs.declared.orders.Batch.{Batch}
use Rattle.form.specs.Payoff.{IsState, BundleLeg, IsBundle, bundle_of, legs_in, IsOnCount, is_on_count, leg_of}
use Rattle.clearing_model.specs.Clearing.{AreOn}
use Rattle.clearing_model.specs.Certificate.{Point, IsFill, AreFractionFills}
use Rattle.form.proofs.DotSteps.{length-vector_of}
use Rattle.form.proofs.Vectors.{length-option_of}
use Rattle.form.proofs.BundleLegs.{is_bundle_of, on_count-from, on_count-true}
use Rattle.cert_check.specs.declared.measures.Weighted.{Weighted}
use Rattle.cert_check.specs.declared.measures.Measure.{Measure}
use Rattle.cert_check.specs.Points.{point_of}
use Rattle.arithmetic.proofs.Tests.{int_le-true, int_le-yes}
use Rattle.cert_check.specs.declared.outcome.Cover.{Cover}
use Rattle.cert_check.specs.declared.outcome.Cover.TheVariants.{Line, Tree}
use Rattle.cert_check.specs.declared.outcome.Mark.{Mark}
use Rattle.cert_check.specs.declared.outcome.Mark.TheVariants.{Optimal, Wide, Budget}
use Rattle.cert_check.specs.declared.outcome.Outcome.{Outcome}
use Rattle.cert_check.specs.Conditions.{IfOptimal, IsCoverOn, IsOfBatch}
use Rattle.cert_check.specs.Tests.{AreSigns, HasSigns}
use Rattle.cert_check.specs.Shape.{IsMarkOn, forms_have, states_have, cover_fits, mark_fits, has_shape, is_fill, are_fills}
use Rattle.exact_num.specs.Tests.{is_at_most, is_not_below_zero}

-- the forms of a bundle on n underlyings have n + 1 entries
count_of_order : (n : ℕ) (o : Order) → IsBundle n (bundle_of o) → IsOnCount (n + 1) o.bundle
unfolding bundle_of
count_of_order n o is =
    let P : BundleLeg → Type 0 = λ leg. (leg.count ≡ pos 0 → ⊥) × (length leg.option ≡ n + 1) in
    let each = All-of_map P leg_of (legs_in o.bundle) is.2 in
    λ k d lt. sym (length-option_of (get_or (legs_in o.bundle) k d).form) ∙ (each k d lt).1

pub forms_all : (n : ℕ) (os : List Order) → forms_have n os ≡ true → All (λ (order : Order). IsOnCount n order.bundle) os
forms_all n os h = λ k d lt. on_count-from n (get_or os k d).bundle (AllPass-from_list_all (λ (order : Order). is_on_count n order.bundle) os h k d lt)

pub forms_pass : (n : ℕ) (os : List Order) → AreOn n os → forms_have (n + 1) os ≡ true
forms_pass n os on =
    list_all-from_AllPass (λ (order : Order). is_on_count (n + 1) order.bundle) os (λ k d lt. on_count-true (n + 1) (get_or os k d).bundle (count_of_order n _ (on k d lt)))

-- each state has so many entries
abbrev HasEntries : ℕ → Weighted → Type 0
HasEntries n point = point.state.count ≡ n

pub states_all : (n : ℕ) (points : List Weighted) → states_have n points ≡ true → All (HasEntries n) points
states_all n points h = λ k d lt. eqb-true _ n (AllPass-from_list_all (λ (point : Weighted). point.state.count == n) points h k d lt)

-- the states of the code are states of n underlyings
abbrev IsOnState : ℕ → Point → Type 0
IsOnState n point = IsState n point.0

pub states_are : (n : ℕ) (points : List Weighted) → All (HasEntries (n + 1)) points → All (IsOnState n) (map point_of points)
states_are n points have = All-to_map (IsOnState n) point_of points (λ k d lt. (length-vector_of (get_or points k d).state ∙ have k d lt, (get_or points k d).state.not_all_zero))

pub states_pass : (n : ℕ) (points : List Weighted) → All (IsOnState n) (map point_of points) → states_have (n + 1) points ≡ true
states_pass n points are =
    list_all-from_AllPass (λ (point : Weighted). point.state.count == n + 1) points
    (λ k d lt. eq-eqb _ (n + 1) (sym (length-vector_of (get_or points k d).state) ∙ (All-of_map (IsOnState n) point_of points are k d lt).0))

pub cover_is_on : (n : ℕ) (cover : Cover) → cover_fits n cover ≡ true → IsCoverOn n cover
cover_is_on n Line h = eqb-true n 1 h
cover_is_on n (Tree tree) h = ltb-true 1 n h

pub cover_passes : (n : ℕ) (cover : Cover) → IsCoverOn n cover → cover_fits n cover ≡ true
cover_passes n Line is = eq-eqb n 1 is
cover_passes n (Tree tree) is = lt-ltb 1 n is

-- cover and measure are on n underlyings
abbrev pub AreOnTheSame : ℕ → Cover → Measure → Type 0
AreOnTheSame n cover measure = IsCoverOn n cover × All (λ (point : Point). IsState n point.0) (map point_of measure.points)

mark_is_on : (n : ℕ) (mark : Mark) → mark_fits n mark ≡ true → IsMarkOn n mark
mark_is_on n (Optimal cover measure) h =
    let parts = and_parts (cover_fits n cover) (states_have (n + 1) measure.points) h in
    (cover_is_on n cover parts.0, states_all (n + 1) measure.points parts.1)
mark_is_on n (Wide w) h = tt
mark_is_on n Budget h = tt

same_underlyings : (n : ℕ) (mark : Mark) → IsMarkOn n mark → IfOptimal mark (AreOnTheSame n)
same_underlyings n (Optimal cover measure) on = (on.0, states_are n measure.points on.1)
same_underlyings n (Wide w) on = tt
same_underlyings n Budget on = tt

-- signs, one for each leg, are enough for any cover
pub has_signs : (cover : Cover) (orders : List Order) (signs : ℕ) → AreSigns orders signs → HasSigns cover orders signs
has_signs Line orders signs are = tt
has_signs (Tree tree) orders signs are = are

mark_passes : (n : ℕ) (mark : Mark) → IfOptimal mark (AreOnTheSame n) → mark_fits n mark ≡ true
mark_passes n (Optimal cover measure) is =
    and_from (cover_fits n cover) (states_have (n + 1) measure.points) (cover_passes n cover is.0) (states_pass n measure.points is.1)
mark_passes n (Wide w) is = refl
mark_passes n Budget is = refl

-- what a shape that passes says to the functions after it
pub record Shaped (batch : Batch) (outcome : Outcome) : Type 0 where
  pub fills : length outcome.fills ≡ length batch.orders
  pub forms : All (λ (order : Order). IsOnCount (batch.underlyings + 1) order.bundle) batch.orders
  pub mark : IsMarkOn batch.underlyings outcome.mark

pub shaped : (batch : Batch) (outcome : Outcome) → has_shape batch outcome ≡ true → Shaped batch outcome
shaped batch outcome h =
    let parts = and_parts ((length outcome.fills == length batch.orders) && forms_have (batch.underlyings + 1) batch.orders) (mark_fits batch.underlyings outcome.mark) h in
    let first = and_parts (length outcome.fills == length batch.orders) (forms_have (batch.underlyings + 1) batch.orders) parts.0 in
    record {
      fills = eqb-true (length outcome.fills) (length batch.orders) first.0;
      forms = forms_all (batch.underlyings + 1) batch.orders first.1;
      mark = mark_is_on batch.underlyings outcome.mark parts.1;
    }

pub shape_met : (batch : Batch) (outcome : Outcome) → has_shape batch outcome ≡ true → IsOfBatch batch outcome
shape_met batch outcome h =
    let shape = shaped batch outcome h in
    record {
      orders = λ k d lt. is_bundle_of batch.underlyings (get_or batch.orders k d) (shape.forms k d lt);
      fills = shape.fills;
      mark = same_underlyings batch.underlyings outcome.mark shape.mark;
    }

pub shape_unmet : (batch : Batch) (outcome : Outcome) → has_shape batch outcome ≡ false → ¬ (IsOfBatch batch outcome)
shape_unmet batch outcome h is =
    let many = eq-eqb (length outcome.fills) (length batch.orders) is.fills in
    let forms = forms_pass batch.underlyings batch.orders is.orders in
    let first = and_from (length outcome.fills == length batch.orders) (forms_have (batch.underlyings + 1) batch.orders) many forms in
    let passes = and_from ((length outcome.fills == length batch.orders) && forms_have (batch.underlyings + 1) batch.orders) (mark_fits batch.underlyings outcome.mark) first (mark_passes batch.underlyings outcome.mark is.mark) in
    cc (h, passes)

fills_are : (os : List Order) (fs : List Frac128) → are_fills os fs ≡ true → All IsFill (zip os (map fraction_of fs))
fills_are [] fs h = All-nil IsFill
fills_are (o ∷ os) [] h = All-nil IsFill
fills_are (o ∷ os) (f ∷ fs) h =
    let parts = and_parts (is_fill o (fraction_of f)) (are_fills os fs) h in
    let here = and_parts (is_not_below_zero (fraction_of f)) (is_at_most (fraction_of f) (whole (pos o.quantity))) parts.0 in
    let low : pos 0 ≤ℤ f.numerator = int_le-yes (pos 0) f.numerator here.0 in
    let high : (f.numerator *ℤ pos 1) ≤ℤ (pos o.quantity *ℤ pos f.denominator) = int_le-yes (f.numerator *ℤ pos 1) (pos o.quantity *ℤ pos f.denominator) here.1 in
    All-cons IsFill (o, fraction_of f) (zip os (map fraction_of fs)) (f.lowest.positive, low, omega (arith, ints)) (fills_are os fs parts.1)

fills_pass : (os : List Order) (fs : List Frac128) → All IsFill (zip os (map fraction_of fs)) → are_fills os fs ≡ true
fills_pass [] fs are = refl
fills_pass (o ∷ os) [] are = refl
fills_pass (o ∷ os) (f ∷ fs) are =
    let here = All-head IsFill (o, fraction_of f) (zip os (map fraction_of fs)) are in
    let least : f.numerator ≤ℤ pos (o.quantity * f.denominator) = here.2 in
    let most : (f.numerator *ℤ pos 1) ≤ℤ (pos o.quantity *ℤ pos f.denominator) = omega (arith, ints) in
    let fits : is_at_most (fraction_of f) (whole (pos o.quantity)) ≡ true = int_le-true (f.numerator *ℤ pos 1) (pos o.quantity *ℤ pos f.denominator) most in
    let passes = and_from (is_not_below_zero (fraction_of f)) (is_at_most (fraction_of f) (whole (pos o.quantity))) (int_le-true (pos 0) f.numerator here.1) fits in
    and_from (is_fill o (fraction_of f)) (are_fills os fs) passes (fills_pass os fs (All-tail IsFill (o, fraction_of f) (zip os (map fraction_of fs)) are))

pub fills_met : (os : List Order) (fs : List Frac128) → length fs ≡ length os → are_fills os fs ≡ true → AreFractionFills os (map fraction_of fs)
fills_met os fs len h = (length-map fs fraction_of ∙ len, fills_are os fs h)

pub fills_unmet : (os : List Order) (fs : List Frac128) → are_fills os fs ≡ false → ¬ (AreFractionFills os (map fraction_of fs))
fills_unmet os fs h are = let passes = fills_pass os fs are.1 in cc (h, passes)
