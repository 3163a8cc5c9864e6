-- The premium less the liability, summed step by step.
use Rattle.std.proofs.Common.{◌≡◌, Bool, true, false, List, ◌∷◌, zip, pos, ◌-ℤ◌, ◌≤ℤ◌, All, Ok, subst}
use Rattle.std.proofs.lemmas.Bool.{and_from, and_parts}
use Rattle.std.proofs.lemmas.List.Elements.{All-cons, All-head, All-tail}
use Rattle.arithmetic.proofs.Tests.{int_le-true, int_le-yes}
use Rattle.exact_num.specs.Fraction.{Fraction, IsLowest}
use Rattle.exact_num.specs.CommonDenominator.{common_denominator, amount_over, IsRatio}
use Rattle.exact_num.specs.Fits.{sub_of, after}
use Rattle.exact_num.specs.Tests.{is_same, is_not_below_zero}
use Rattle.exact_num.proofs.After.{after_value}
use Rattle.exact_num.proofs.Fractions.{common_positive}
use Rattle.exact_num.proofs.Order.{same_parts}
use Rattle.exact_num.proofs.LowestRatios.{IsLowestRatio, amounts_stand, difference_stands}
use Rattle.exact_num.proofs.Tested.{ratio_is_same, lowest_are_defined}
use Rattle.frac.specs.Range.{limit}
use Rattle.form.specs.declared.orders.Order.{Order}
use Rattle.clearing_model.specs.Clearing.{signed_premium}
use Rattle.clearing_model.specs.Certificate.{signed_over, IsPremiumLessLiability}
use Rattle.line_cover.proofs.Fills.{side_stands, fills_stand}
use Rattle.cert_check.specs.Tests.{add_premium, premium_of, is_claimed, surplus_holds}

-- what is left, as it is tested
record SurplusSum (os : List Order) (fs : List Fraction) (L S : Fraction) (is : Bool) : Type 0 where
  left : Fraction
  test : is_claimed S left ≡ is
  stands : (let D = common_denominator (L ∷ fs) in IsLowestRatio left (signed_premium (signed_over D os fs) -ℤ amount_over D L) D)

surplus_sum : (os : List Order) (fs : List Fraction) (L S : Fraction) (is : Bool) → All IsLowest fs → IsLowest L → surplus_holds limit (zip os fs) L S ≡ Ok is → SurplusSum os fs L S is
surplus_sum os fs L S is low lowest_L h =
    let D = common_denominator (L ∷ fs) in
    let P : Fraction → Type 0 = λ a. IsLowestRatio a (amount_over D a) D in
    let stand = amounts_stand (L ∷ fs) (All-cons IsLowest L fs lowest_L low) in
    let outer = after_value (premium_of limit (zip os fs)) (λ premium. after (sub_of limit premium L) (λ left. Ok (is_claimed S left))) is h in
    let inner = after_value (sub_of limit outer.value L) (λ left. Ok (is_claimed S left)) is outer.rest in
    let premium = fills_stand D (add_premium limit) (λ o. pos o.price) (λ o a sa start s x st step. side_stands limit o.side start a s (pos o.price) x _ D st sa step) os fs outer.value (All-tail P L fs stand) outer.first in
    record { left = inner.value; test = cc (inner.rest); stands = difference_stands limit outer.value L inner.value _ _ D premium (All-head P L fs stand) inner.first }

pub surplus_is : (os : List Order) (fs : List Fraction) (L S : Fraction) → All IsLowest fs → IsLowest L → IsLowest S
    → surplus_holds limit (zip os fs) L S ≡ Ok true → IsPremiumLessLiability os fs L S × (pos 0 ≤ℤ S.numerator)
surplus_is os fs L S low lowest_L lowest_S h =
    let D = common_denominator (L ∷ fs) in
    let sum = surplus_sum os fs L S true low lowest_L h in
    let parts = and_parts (is_same sum.left S) (is_not_below_zero S) sum.test in
    let same : sum.left ≡ S = same_parts sum.left S sum.stands.lowest lowest_S parts.0 in (
      subst (λ f. IsRatio f (signed_premium (signed_over D os fs) -ℤ amount_over D L) D) same sum.stands.ratio,
      int_le-yes (pos 0) S.numerator parts.1,
    )

pub surplus_is_not : (os : List Order) (fs : List Fraction) (L S : Fraction) → All IsLowest fs → IsLowest L
    → surplus_holds limit (zip os fs) L S ≡ Ok false → IsPremiumLessLiability os fs L S → pos 0 ≤ℤ S.numerator → ⊥
surplus_is_not os fs L S low lowest_L h is least =
    let D = common_denominator (L ∷ fs) in
    let sum = surplus_sum os fs L S false low lowest_L h in
    let one = common_positive (L ∷ fs) (lowest_are_defined (L ∷ fs) (All-cons IsLowest L fs lowest_L low)) in
    let same = ratio_is_same sum.left S (signed_premium (signed_over D os fs) -ℤ amount_over D L) D one sum.stands.ratio is in
    let passes = and_from (is_same sum.left S) (is_not_below_zero S) same (int_le-true (pos 0) S.numerator least) in
    let test = sum.test in
    cc (passes, test)
