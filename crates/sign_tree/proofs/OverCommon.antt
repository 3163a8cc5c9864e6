-- The legs of the walk are those of the fills, and stand over a common denominator with the
-- liability and the multipliers.
use Rattle.std.proofs.Common.{◌≡◌, ℕ, ◌≤◌, List, [], ◌∷◌, ◌++◌, length, map, get_or, pos, ◌≤ℤ◌, All, refl, ap}
use Rattle.std.proofs.lemmas.List.{length-map}
use Rattle.std.proofs.lemmas.List.Elements.{All-append, All-cons, All-head, All-nil, All-tail}
use Rattle.arithmetic.proofs.Sums.{All-of_map}
use Rattle.exact_num.specs.Fraction.{Fraction, IsLowest, IsNotBelowZero}
use Rattle.exact_num.specs.CommonDenominator.{common_denominator, amount_over}
use Rattle.exact_num.proofs.Fractions.{common_positive}
use Rattle.exact_num.proofs.Tested.{lowest_are_defined}
use Rattle.form.specs.declared.orders.Side.{Side}
use Rattle.form.specs.declared.orders.Order.{Order}
use Rattle.form.specs.Payoff.{BundleLeg, bundle_of}
use Rattle.clearing_model.specs.Legs.{FilledLeg, filled_leg, legs_of}
use Rattle.clearing_model.specs.Written.{PlacedMultiplier}
use Rattle.clearing_model.specs.Certificate.{filled_over, by_of}
use Rattle.exact_num.proofs.LowestRatios.{IsLowestRatio, amounts_stand}
use Rattle.sign_tree.specs.Legs.{FractionLeg, fraction_leg, fraction_legs}
use Rattle.sign_tree.proofs.LeafSums.{amount_of, HasAmount, has_amount, leg_over, legs_over, LegHasAmount, MultiplierHasAmount}

-- the legs of the walk are those of the fills
bundles_are_same : (D : ℕ) (side : Side) (f : Fraction) (bundle : List BundleLeg) (legs : List FilledLeg) (rest : List FractionLeg) → legs ≡ legs_over D rest
    → map (filled_leg side (amount_of D f)) bundle ++ legs ≡ legs_over D (map (fraction_leg side f) bundle ++ rest)
bundles_are_same D side f [] legs rest same = same
bundles_are_same D side f (leg ∷ bundle) legs rest same =
    ap (λ (xs : List FilledLeg). filled_leg side (amount_of D f) leg ∷ xs) (bundles_are_same D side f bundle legs rest same)

pub legs_are_same : (D : ℕ) (os : List Order) (fs : List Fraction) → legs_of (filled_over D os fs) ≡ legs_over D (fraction_legs os fs)
legs_are_same D [] fs = refl
legs_are_same D (o ∷ os) [] = refl
legs_are_same D (o ∷ os) (f ∷ fs) = bundles_are_same D o.side f (bundle_of o) (legs_of (filled_over D os fs)) (fraction_legs os fs) (legs_are_same D os fs)

pub length_of_legs : (E : ℕ) (legs : List FractionLeg) → length (legs_over E legs) ≡ length legs
length_of_legs E legs = length-map legs (leg_over E)

-- ---- over one denominator
abbrev pub HasPart : ℕ → PlacedMultiplier → Type 0
HasPart D m = IsLowestRatio m.by (amount_over D m.by) D

abbrev pub HasNoMinus : PlacedMultiplier → Type 0
HasNoMinus m = pos 0 ≤ℤ m.by.numerator

pub with_amounts : (D : ℕ) (ms : List PlacedMultiplier) → All (HasPart D) ms → All HasNoMinus ms → All (MultiplierHasAmount D) ms
with_amounts D ms parts least k d lt = has_amount D (get_or ms k d).by (parts k d lt) (least k d lt)

-- what stands over D
pub record StandsOver (D : ℕ) (legs : List FractionLeg) (L : Fraction) (ms : List PlacedMultiplier) : Type 0 where
  pub one : 1 ≤ D
  pub legs_are : All (LegHasAmount D) legs
  pub liability : IsLowestRatio L (amount_over D L) D
  pub parts : All (HasPart D) ms

-- each fraction stands for its amount
abbrev HasItsAmount : ℕ → Fraction → Type 0
HasItsAmount D f = IsLowestRatio f (amount_over D f) D

bundle_has : (D : ℕ) (side : Side) (f : Fraction) (bundle : List BundleLeg) (rest : List FractionLeg) → HasAmount D f → All (LegHasAmount D) rest
    → All (LegHasAmount D) (map (fraction_leg side f) bundle ++ rest)
bundle_has D side f [] rest here after = after
bundle_has D side f (leg ∷ bundle) rest here after =
    All-cons (LegHasAmount D) (fraction_leg side f leg) (map (fraction_leg side f) bundle ++ rest) here (bundle_has D side f bundle rest here after)

legs_have : (D : ℕ) (os : List Order) (fs : List Fraction) → All (HasItsAmount D) fs → All IsNotBelowZero fs → All (LegHasAmount D) (fraction_legs os fs)
legs_have D [] fs stand least = All-nil (LegHasAmount D)
legs_have D (o ∷ os) [] stand least = All-nil (LegHasAmount D)
legs_have D (o ∷ os) (f ∷ fs) stand least =
    bundle_has D o.side f (bundle_of o) (fraction_legs os fs) (has_amount D f (All-head (HasItsAmount D) f fs stand) (All-head IsNotBelowZero f fs least))
    (legs_have D os fs (All-tail (HasItsAmount D) f fs stand) (All-tail IsNotBelowZero f fs least))

-- both parts of a list, and what is defined
pub first_part : {A : Type 0} (P : A → Type 0) (xs ys : List A) → All P (xs ++ ys) → All P xs
first_part P [] ys all = All-nil P
first_part P (x ∷ xs) ys all = All-cons P x xs (All-head P x (xs ++ ys) all) (first_part P xs ys (All-tail P x (xs ++ ys) all))

pub second_part : {A : Type 0} (P : A → Type 0) (xs ys : List A) → All P (xs ++ ys) → All P ys
second_part P [] ys all = all
second_part P (x ∷ xs) ys all = second_part P xs ys (All-tail P x (xs ++ ys) all)

pub stand_over : (os : List Order) (fs : List Fraction) (L : Fraction) (ms : List PlacedMultiplier) → All IsLowest fs → All IsNotBelowZero fs → IsLowest L → All IsLowest (map by_of ms)
    → StandsOver (common_denominator (L ∷ (fs ++ map by_of ms))) (fraction_legs os fs) L ms
stand_over os fs L ms low least lowest_L ms_low =
    let fractions = L ∷ (fs ++ map by_of ms) in
    let lowest = All-cons IsLowest L (fs ++ map by_of ms) lowest_L (All-append IsLowest fs (map by_of ms) low ms_low) in
    let P = HasItsAmount (common_denominator fractions) in
    let all = amounts_stand fractions lowest in
    let rest = All-tail P L (fs ++ map by_of ms) all in
    record {
      one = common_positive fractions (lowest_are_defined fractions lowest);
      legs_are = legs_have (common_denominator fractions) os fs (first_part P fs (map by_of ms) rest) least;
      liability = All-head P L (fs ++ map by_of ms) all;
      parts = All-of_map P by_of ms (second_part P fs (map by_of ms) rest);
    }
