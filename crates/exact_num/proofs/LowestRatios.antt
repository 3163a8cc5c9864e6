-- Steps that fit, over one denominator.
use Rattle.std.proofs.Common.{◌≡◌, ℕ, ◌*◌, ◌≤◌, true, false, List, [], ◌∷◌, ◌≤ℤ◌, ◌<ℤ◌, ℤ, pos, neg_ℤ, ◌+ℤ◌, ◌*ℤ◌, All, Result, Ok, arith, ap, subst}
use Rattle.std.proofs.lemmas.Int.{ints}
use Rattle.std.proofs.lemmas.List.Elements.{All-head, All-tail}
use Rattle.arithmetic.specs.Sums.{total}
use Rattle.arithmetic.proofs.Integers.{*ℤ_cancel, *ℤ_cancel_le, *ℤ_cancel_lt, *ℤ_mono, *ℤ_mono_lt}
use Rattle.arithmetic.proofs.Products.{products}
use Rattle.arithmetic.proofs.Tests.{int_lt-yes, int_lt-no}
use Rattle.exact_num.specs.declared.misfit.Wide.{Wide}
use Rattle.exact_num.specs.Fraction.{Fraction, IsLowest, whole, negated}
use Rattle.exact_num.specs.CommonDenominator.{IsRatio, amount_over, common_denominator}
use Rattle.exact_num.specs.Fits.{add_of, sub_of, mul_of}
use Rattle.exact_num.specs.Steps.{fold_steps, plus_product, less_product}
use Rattle.exact_num.specs.Tests.{is_above_zero}
use Rattle.exact_num.proofs.After.{after_value}
use Rattle.exact_num.proofs.Values.{whole_is_lowest, negated_is_lowest}
use Rattle.exact_num.proofs.Exactness.{sums_are_exact, products_are_exact}
use Rattle.exact_num.proofs.Fractions.{is_ratio_sum, amount_is_exact, divides}

-- a number in lowest terms that is x / D
pub record IsLowestRatio (f : Fraction) (x : ℤ) (D : ℕ) : Type 0 where
  pub lowest : IsLowest f
  pub ratio : IsRatio f x D

pub whole_stands : (k : ℤ) (D : ℕ) → IsLowestRatio (whole k) (k *ℤ pos D) D
whole_stands k D = record { lowest = whole_is_lowest k; ratio = omega (arith, ints) }

pub zero_stands : (D : ℕ) → IsLowestRatio (whole (pos 0)) (pos 0) D
zero_stands D = record { lowest = whole_is_lowest (pos 0); ratio = omega (arith, ints) }

-- each number of a list stands over their common denominator
pub amounts_stand : (fs : List Fraction) → All IsLowest fs → All (λ f. IsLowestRatio f (amount_over (common_denominator fs) f) (common_denominator fs)) fs
amounts_stand fs low = λ k d lt. record { lowest = low k d lt; ratio = amount_is_exact (common_denominator fs) _ (divides fs k d lt) }

-- ---- the operations
ratio_scale : (c : Fraction) (a : Fraction) (y k : ℤ) (D : ℕ) → 1 ≤ a.denominator → c.numerator *ℤ pos (a.denominator * 1) ≡ (a.numerator *ℤ k) *ℤ pos c.denominator → IsRatio a y D → IsRatio c (y *ℤ k) D
ratio_scale c a y k D one same r =
    *ℤ_cancel a.denominator (c.numerator *ℤ pos D) ((y *ℤ k) *ℤ pos c.denominator) one
    (omega (arith, ints, products, ap (λ w. w *ℤ pos D) same, ap (λ w. (w *ℤ k) *ℤ pos c.denominator) r))

pub product_stands : (limit : ℕ) (a p : Fraction) (k y : ℤ) (D : ℕ) → IsLowestRatio a y D → mul_of limit a (whole k) ≡ Ok p → IsLowestRatio p (y *ℤ k) D
product_stands limit a p k y D st h =
    let exact = products_are_exact limit a (whole k) p st.lowest (whole_is_lowest k) h in
    record { lowest = exact.lowest; ratio = ratio_scale p a y k D st.lowest.positive exact.same st.ratio }

-- the product with the whole number first
pub whole_product_stands : (limit : ℕ) (a p : Fraction) (k y : ℤ) (D : ℕ) → IsLowestRatio a y D → mul_of limit (whole k) a ≡ Ok p → IsLowestRatio p (y *ℤ k) D
whole_product_stands limit a p k y D st h =
    let exact = products_are_exact limit (whole k) a p (whole_is_lowest k) st.lowest h in
    let same : p.numerator *ℤ pos (a.denominator * 1) ≡ (a.numerator *ℤ k) *ℤ pos p.denominator = omega (arith, ints, products, exact.same) in
    record { lowest = exact.lowest; ratio = ratio_scale p a y k D st.lowest.positive same st.ratio }

pub sum_stands : (limit : ℕ) (a b s : Fraction) (x y : ℤ) (D : ℕ) → IsLowestRatio a x D → IsLowestRatio b y D → add_of limit a b ≡ Ok s → IsLowestRatio s (x +ℤ y) D
sum_stands limit a b s x y D sa sb h =
    let exact = sums_are_exact limit a b s sa.lowest sb.lowest h in
    record { lowest = exact.lowest; ratio = is_ratio_sum a b s x y D sa.lowest.positive sb.lowest.positive exact.same sa.ratio sb.ratio }

pub negated_stands : (a : Fraction) (x : ℤ) (D : ℕ) → IsLowestRatio a x D → IsLowestRatio (negated a) (neg_ℤ x) D
negated_stands a x D st = record { lowest = negated_is_lowest a st.lowest; ratio = omega (arith, ints, products, st.ratio) }

pub difference_stands : (limit : ℕ) (a b s : Fraction) (x y : ℤ) (D : ℕ) → IsLowestRatio a x D → IsLowestRatio b y D → sub_of limit a b ≡ Ok s → IsLowestRatio s (x +ℤ neg_ℤ y) D
difference_stands limit a b s x y D sa sb h = sum_stands limit a (negated b) s x (neg_ℤ y) D sa (negated_stands b y D sb) h

pub plus_stands : (limit : ℕ) (total a s : Fraction) (k x y : ℤ) (D : ℕ) → IsLowestRatio total x D → IsLowestRatio a y D → plus_product limit total a (whole k) ≡ Ok s → IsLowestRatio s (x +ℤ (y *ℤ k)) D
plus_stands limit total a s k x y D st sa h =
    let f = after_value (mul_of limit a (whole k)) (λ p. add_of limit total p) s h in
    sum_stands limit total f.value s x (y *ℤ k) D st (product_stands limit a f.value k y D sa f.first) f.rest

pub times_stands : (limit : ℕ) (total a s : Fraction) (k x y : ℤ) (D : ℕ) → IsLowestRatio total x D → IsLowestRatio a y D → plus_product limit total (whole k) a ≡ Ok s → IsLowestRatio s (x +ℤ (y *ℤ k)) D
times_stands limit total a s k x y D st sa h =
    let f = after_value (mul_of limit (whole k) a) (λ p. add_of limit total p) s h in
    sum_stands limit total f.value s x (y *ℤ k) D st (whole_product_stands limit a f.value k y D sa f.first) f.rest

pub less_stands : (limit : ℕ) (total a s : Fraction) (k x y : ℤ) (D : ℕ) → IsLowestRatio total x D → IsLowestRatio a y D → less_product limit total a (whole k) ≡ Ok s → IsLowestRatio s (x +ℤ neg_ℤ (y *ℤ k)) D
less_stands limit total a s k x y D st sa h =
    let f = after_value (mul_of limit a (whole k)) (λ p. sub_of limit total p) s h in
    difference_stands limit total f.value s x (y *ℤ k) D st (product_stands limit a f.value k y D sa f.first) f.rest

-- ---- sums
-- the step for an item adds v of it over D to any total
abbrev pub Adds : {A : Type 0} → (Fraction → A → Result Fraction Wide) → (A → ℤ) → ℕ → A → Type 0
Adds step v D a = (start s : Fraction) (x : ℤ) → IsLowestRatio start x D → step start a ≡ Ok s → IsLowestRatio s (x +ℤ v a) D

from : {A : Type 0} (step : Fraction → A → Result Fraction Wide) (v : A → ℤ) (D : ℕ) (xs : List A) → All (Adds step v D) xs
    → (start s : Fraction) (x : ℤ) → IsLowestRatio start x D → fold_steps step start xs ≡ Ok s → IsLowestRatio s (x +ℤ total v xs) D
from step v D [] adds start s x st h =
    let same : start ≡ s = cc in
    let zero : x ≡ x +ℤ pos 0 = omega (arith, ints) in
    subst (λ t. IsLowestRatio t (x +ℤ pos 0) D) same (subst (λ w. IsLowestRatio start w D) zero st)
from step v D (a ∷ xs) adds start s x st h =
    let f = after_value (step start a) (λ next. fold_steps step next xs) s h in
    let here = All-head (Adds step v D) a xs adds start f.value x st f.first in
    let rest = from step v D xs (All-tail (Adds step v D) a xs adds) f.value s (x +ℤ v a) here f.rest in
    let same : (x +ℤ v a) +ℤ total v xs ≡ x +ℤ (v a +ℤ total v xs) = omega (arith, ints) in
    subst (λ w. IsLowestRatio s w D) same rest

-- so the steps from 0 on give the sum of v over the list
pub fold_stands : {A : Type 0} (step : Fraction → A → Result Fraction Wide) (v : A → ℤ) (D : ℕ) (xs : List A) (s : Fraction) → All (Adds step v D) xs
    → fold_steps step (whole (pos 0)) xs ≡ Ok s → IsLowestRatio s (total v xs) D
fold_stands step v D xs s adds h =
    let same : pos 0 +ℤ total v xs ≡ total v xs = omega (arith, ints) in
    subst (λ w. IsLowestRatio s w D) same (from step v D xs adds (whole (pos 0)) s (pos 0) (zero_stands D) h)

-- ---- signs
-- a number that is not above 0 stands for one that is not
pub not_above : (e : Fraction) (y : ℤ) (D : ℕ) → IsLowestRatio e y D → is_above_zero e ≡ false → y ≤ℤ pos 0
not_above e y D st test =
    *ℤ_cancel_le e.denominator y (pos 0) st.lowest.positive (omega (arith, ints, *ℤ_mono D e.numerator (pos 0) (int_lt-no (pos 0) e.numerator test), st.ratio))

-- one that is above 0 for one that is not below, and above where D is
pub above : (e : Fraction) (y : ℤ) (D : ℕ) → IsLowestRatio e y D → is_above_zero e ≡ true → pos 0 ≤ℤ y
above e y D st test =
    let high : pos 0 <ℤ e.numerator = int_lt-yes (pos 0) e.numerator test in
    let least : pos 0 ≤ℤ e.numerator = omega (arith, ints) in
    *ℤ_cancel_le e.denominator (pos 0) y st.lowest.positive (omega (arith, ints, *ℤ_mono D (pos 0) e.numerator least, st.ratio))

pub is_above : (e : Fraction) (y : ℤ) (D : ℕ) → 1 ≤ D → IsLowestRatio e y D → is_above_zero e ≡ true → pos 0 <ℤ y
is_above e y D one st test =
    *ℤ_cancel_lt (pos 0) y e.denominator (omega (arith, ints, *ℤ_mono_lt (pos 0) e.numerator D (int_lt-yes (pos 0) e.numerator test) one, st.ratio))
