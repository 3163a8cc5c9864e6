-- Without a cover: whether as much is bought as sold of each bundle, summed step by step.
use Rattle.std.proofs.Common.{◌≡◌, ℕ, Bool, true, false, List, zip, arith, ℤ, pos, neg_ℤ, ◌+ℤ◌, ◌*ℤ◌, All, Ok, refl, ap, sym, subst, ◌∙◌}
use Rattle.std.proofs.lemmas.Int.{ints}
use Rattle.std.proofs.lemmas.List.{length-map}
use Rattle.arithmetic.specs.Sums.{positive_part}
use Rattle.arithmetic.proofs.Lists.{All-zip_left, All-of_zip_left}
use Rattle.arithmetic.proofs.Products.{products}
use Rattle.exact_num.specs.Fraction.{Fraction, IsLowest, whole}
use Rattle.exact_num.specs.CommonDenominator.{common_denominator, amount_over, amounts_of, IsRatio}
use Rattle.exact_num.specs.Tests.{is_same}
use Rattle.exact_num.proofs.After.{after_value}
use Rattle.exact_num.proofs.Fractions.{common_positive}
use Rattle.exact_num.proofs.Order.{parts_same, same_parts}
use Rattle.exact_num.proofs.LowestRatios.{IsLowestRatio, amounts_stand, sum_stands, difference_stands}
use Rattle.exact_num.proofs.Tested.{ratio_is_same, lowest_are_defined, all_hold, not_all_hold}
use Rattle.exact_num.proofs.Values.{whole_is_lowest}
use Rattle.frac.specs.Range.{limit}
use Rattle.form.specs.declared.orders.Side.{Side}
use Rattle.form.specs.declared.orders.Side.TheVariants.{Buy, Sell}
use Rattle.form.specs.declared.orders.Order.{Order}
use Rattle.form.specs.Payoff.{BundleLeg, bundle_of}
use Rattle.form.specs.Vector.{is_same_bundle}
use Rattle.clearing_model.specs.Balance.{one_if, balance_of as model_balance}
use Rattle.clearing_model.specs.Certificate.{AreFractionFills, signed_over}
use Rattle.clearing_model.specs.Clearing.{Filled, for_side, signed_sum}
use Rattle.line_cover.proofs.Fills.{fills_stand}
use Rattle.market_laws.proofs.Certificate.{signed_is}
use Rattle.market_laws.proofs.Legs.{signed_sums_agree}
use Rattle.cert_check.specs.Conditions.{OwesNothing}
use Rattle.cert_check.specs.Cover.{add_fill, add_same, balance_of, balances_at, balances_all, fallback_holds}

-- 1 where the order is of the bundle
abbrev counts_for : List BundleLeg → Order → ℤ
counts_for bundle o = one_if (is_same_bundle (bundle_of o) bundle)

fill_stands : (side : Side) (total f s : Fraction) (x y : ℤ) (D : ℕ) → IsLowestRatio total x D → IsLowestRatio f y D → add_fill limit total side f ≡ Ok s → IsLowestRatio s (x +ℤ for_side side (pos 1 *ℤ y)) D
fill_stands Buy total f s x y D st sf h =
    let e : x +ℤ y ≡ x +ℤ (pos 1 *ℤ y) = omega (arith, ints, products) in
    subst (λ w. IsLowestRatio s w D) e (sum_stands limit total f s x y D st sf h)
fill_stands Sell total f s x y D st sf h =
    let e : x +ℤ neg_ℤ y ≡ x +ℤ neg_ℤ (pos 1 *ℤ y) = omega (arith, ints, products) in
    subst (λ w. IsLowestRatio s w D) e (difference_stands limit total f s x y D st sf h)

nothing : (side : Side) (x y : ℤ) → x ≡ x +ℤ for_side side (pos 0 *ℤ y)
nothing Buy x y = omega (arith, ints, products)
nothing Sell x y = omega (arith, ints, products)

same_stands : (bundle : List BundleLeg) (o : Order) (total f s : Fraction) (x y : ℤ) (D : ℕ) → IsLowestRatio total x D → IsLowestRatio f y D → add_same limit bundle total (o, f) ≡ Ok s → IsLowestRatio s (x +ℤ for_side o.side (counts_for bundle o *ℤ y)) D
same_stands bundle o total f s x y D st sf h = by_test (is_same_bundle (bundle_of o) bundle) refl
  where
    by_test : (t : Bool) → is_same_bundle (bundle_of o) bundle ≡ t → IsLowestRatio s (x +ℤ for_side o.side (counts_for bundle o *ℤ y)) D
    by_test true e = rw e (fill_stands o.side total f s x y D st sf (rw e at h))
    by_test false e =
        let none : Ok total ≡ Ok s = rw e at h in
        let stays : total ≡ s = cc in
        rw e (subst (λ w. IsLowestRatio s w D) (nothing o.side x y) (subst (λ t. IsLowestRatio t x D) stays st))

-- the balance of a bundle, from the sum over its denominator
balance_is : (os : List Order) (fs : List Fraction) (bundle : List BundleLeg) → AreFractionFills os fs
    → model_balance bundle (zip os (amounts_of fs)) ≡ signed_sum (counts_for bundle) (signed_over (common_denominator fs) os fs)
balance_is os fs bundle are =
    sym (signed_sums_agree (counts_for bundle) (zip os (amounts_of fs)))
    ∙ ap (signed_sum (counts_for bundle)) (sym (signed_is (common_denominator fs) os fs are.1 are.0))

-- the sum of the test, which stands for the balance
record BalanceSum (os : List Order) (fs : List Fraction) (o : Order) (is : Bool) : Type 0 where
  sum : Fraction
  test : is_same sum (whole (pos 0)) ≡ is
  stands : IsLowestRatio sum (model_balance (bundle_of o) (zip os (amounts_of fs))) (common_denominator fs)

balance_sum : (os : List Order) (fs : List Fraction) (o : Order) (is : Bool) → AreFractionFills os fs → All IsLowest fs → balances_at limit (zip os fs) (bundle_of o) ≡ Ok is → BalanceSum os fs o is
balance_sum os fs o is are low h =
    let D = common_denominator fs in
    let bundle = bundle_of o in
    let sum = after_value (balance_of limit (zip os fs) bundle) (λ sum. Ok (is_same sum (whole (pos 0)))) is h in
    let st = fills_stand D (add_same limit bundle) (counts_for bundle) (λ o a sa start s x st step. same_stands bundle o start a s x _ D st sa step) os fs sum.value (amounts_stand fs low) sum.first in
    record { sum = sum.value; test = cc (sum.rest); stands = subst (λ x. IsLowestRatio sum.value x D) (sym (balance_is os fs bundle are)) st }

balance_here : (os : List Order) (fs : List Fraction) (o : Order) → AreFractionFills os fs → All IsLowest fs → balances_at limit (zip os fs) (bundle_of o) ≡ Ok true → model_balance (bundle_of o) (zip os (amounts_of fs)) ≡ pos 0
balance_here os fs o are low h =
    let s = balance_sum os fs o true are low h in
    let zero : s.sum ≡ whole (pos 0) = same_parts s.sum (whole (pos 0)) s.stands.lowest (whole_is_lowest (pos 0)) s.test in
    let ratio = subst (λ f. IsRatio f (model_balance (bundle_of o) (zip os (amounts_of fs))) (common_denominator fs)) zero s.stands.ratio in
    omega (arith, ints, ratio)

no_balance_here : (os : List Order) (fs : List Fraction) (o : Order) → AreFractionFills os fs → All IsLowest fs → balances_at limit (zip os fs) (bundle_of o) ≡ Ok false → ¬ (model_balance (bundle_of o) (zip os (amounts_of fs)) ≡ pos 0)
no_balance_here os fs o are low h zero =
    let D = common_denominator fs in
    let s = balance_sum os fs o false are low h in
    let ratio : IsRatio s.sum (pos 0) D = subst (λ x. IsRatio s.sum x D) zero s.stands.ratio in
    let same = ratio_is_same s.sum (whole (pos 0)) (pos 0) D (common_positive fs (lowest_are_defined fs low)) ratio (omega (arith, ints)) in
    let test = s.test in
    cc (same, test)

-- as much is bought as sold of the bundle of the fill
abbrev IsBalanced : List Order → List Fraction → Filled → Type 0
IsBalanced os fs fill = model_balance (bundle_of fill.0) (zip os (amounts_of fs)) ≡ pos 0

abbrev BundleIsBalanced : List Order → List Fraction → Order → Type 0
BundleIsBalanced os fs o = model_balance (bundle_of o) (zip os (amounts_of fs)) ≡ pos 0

-- of each order, so of each fill
all_balance : (os : List Order) (fs : List Fraction) → AreFractionFills os fs → All IsLowest fs → balances_all limit (zip os fs) os ≡ Ok true → All (IsBalanced os fs) (zip os (amounts_of fs))
all_balance os fs are low h =
    All-zip_left (BundleIsBalanced os fs) os (amounts_of fs)
    (all_hold (λ (o : Order). balances_at limit (zip os fs) (bundle_of o)) (BundleIsBalanced os fs) (λ o. balance_here os fs o are low) os h)

not_all_balance : (os : List Order) (fs : List Fraction) → AreFractionFills os fs → All IsLowest fs → balances_all limit (zip os fs) os ≡ Ok false → ¬ (All (IsBalanced os fs) (zip os (amounts_of fs)))
not_all_balance os fs are low h all =
    not_all_hold (λ (o : Order). balances_at limit (zip os fs) (bundle_of o)) (BundleIsBalanced os fs) (λ o. no_balance_here os fs o are low) os h
    (All-of_zip_left (BundleIsBalanced os fs) os (amounts_of fs) (length-map fs (λ (f : Fraction). positive_part (amount_over (common_denominator fs) f)) ∙ are.0) all)

pub fallback_is : (os : List Order) (fs : List Fraction) (L : Fraction) → AreFractionFills os fs → All IsLowest fs → IsLowest L → fallback_holds limit (zip os fs) os L ≡ Ok true
    → OwesNothing os fs L
fallback_is os fs L are low lowest_L h = by_test (is_same L (whole (pos 0))) refl
  where
    by_test : (t : Bool) → is_same L (whole (pos 0)) ≡ t → OwesNothing os fs L
    by_test false e =
        let no : fallback_holds limit (zip os fs) os L ≡ Ok false = rw e refl in
        cc
    by_test true e =
        let all : balances_all limit (zip os fs) os ≡ Ok true = rw e at h in
        (same_parts L (whole (pos 0)) lowest_L (whole_is_lowest (pos 0)) e, all_balance os fs are low all)

pub fallback_is_not : (os : List Order) (fs : List Fraction) (L : Fraction) → AreFractionFills os fs → All IsLowest fs → fallback_holds limit (zip os fs) os L ≡ Ok false
    → ¬ (OwesNothing os fs L)
fallback_is_not os fs L are low h owes =
    let e : is_same L (whole (pos 0)) ≡ true = parts_same L (whole (pos 0)) owes.0 in
    let some : balances_all limit (zip os fs) os ≡ Ok false = rw e at h in
    not_all_balance os fs are low some owes.1
