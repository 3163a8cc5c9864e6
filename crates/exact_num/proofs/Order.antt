-- The order of fractions by cross products is total, and lowest terms are unique.
use Rattle.std.proofs.Common.{◌≡◌, ℕ, ◌*◌, ◌<◌, ℤ, pos, ◌*ℤ◌, unsigned_abs, refl, ap, sym, ◌∙◌, subst, true}
use Rattle.std.specs.Int.{◌∣◌}
use Rattle.std.specs.declared.cmp.Ordering.{Ordering}
use Rattle.std.specs.declared.cmp.Ordering.TheVariants.{Less, Equal, Greater}
use Rattle.std.specs.Ordering.{int_cmp, is_eq, ordering_reverse}
use Rattle.std.specs.Cmp.{IsTotalOrder, IsEquivalence, IsPartialEquivalence, IsPartialOrder, partial_equiv_from_equiv, po}
use Rattle.std.proofs.lemmas.Cmp.{int_cmp_total, eq_by_cmp_equiv}
use Rattle.std.specs.Prelude.{Some}
use Rattle.std.proofs.lemmas.Int.{unsigned_abs-mul}
use Rattle.std.proofs.Math.Nat.{dvd_antisymm, dvd-mul_left}
use Rattle.arithmetic.proofs.GcdLaws.{gcd_comm, dvd_of_coprime}
use Rattle.arithmetic.proofs.Integers.{*ℤ_cancel, swap_factors}
use Rattle.arithmetic.proofs.Comparisons.{int_cmp-mul, int_cmp_equal, equal_int_cmp}
use Rattle.exact_num.specs.Fraction.{Fraction, IsLowest, IsSameValue, fraction_cmp}

-- both sides of a comparison times the same number, with the factors in the other order
cmp_scaled : (a e : ℤ) (b d f : ℕ) → 0 < d → int_cmp (a *ℤ pos f) (e *ℤ pos b) ≡ int_cmp ((a *ℤ pos d) *ℤ pos f) ((e *ℤ pos d) *ℤ pos b)
cmp_scaled a e b d f h =
    sym (int_cmp-mul (a *ℤ pos f) (e *ℤ pos b) d h)
    ∙ ap (λ (z : ℤ). int_cmp z ((e *ℤ pos b) *ℤ pos d)) (swap_factors a f d)
    ∙ ap (λ (z : ℤ). int_cmp ((a *ℤ pos d) *ℤ pos f) z) (swap_factors e b d)

pub cmp_less_trans : (x y z : Fraction) → IsLowest x → IsLowest y → IsLowest z → fraction_cmp x y ≡ Less → fraction_cmp y z ≡ Less → fraction_cmp x z ≡ Less
cmp_less_trans x y z lx ly lz p q =
    let first : int_cmp ((x.numerator *ℤ pos y.denominator) *ℤ pos z.denominator) ((y.numerator *ℤ pos x.denominator) *ℤ pos z.denominator) ≡ Less = int_cmp-mul _ _ z.denominator lz.positive ∙ p in
    let second : int_cmp ((y.numerator *ℤ pos z.denominator) *ℤ pos x.denominator) ((z.numerator *ℤ pos y.denominator) *ℤ pos x.denominator) ≡ Less = int_cmp-mul _ _ x.denominator lx.positive ∙ q in
    let second' : int_cmp ((y.numerator *ℤ pos x.denominator) *ℤ pos z.denominator) ((z.numerator *ℤ pos y.denominator) *ℤ pos x.denominator) ≡ Less = ap (λ (w : ℤ). int_cmp w ((z.numerator *ℤ pos y.denominator) *ℤ pos x.denominator)) (swap_factors y.numerator x.denominator z.denominator) ∙ second in
    cmp_scaled x.numerator z.numerator x.denominator y.denominator z.denominator ly.positive ∙ int_cmp_total.trans ((x.numerator *ℤ pos y.denominator) *ℤ pos z.denominator) ((y.numerator *ℤ pos x.denominator) *ℤ pos z.denominator) ((z.numerator *ℤ pos y.denominator) *ℤ pos x.denominator) first second'

same : (x y z : Fraction) → IsLowest x → IsLowest y → IsLowest z → fraction_cmp x y ≡ Equal → fraction_cmp x z ≡ fraction_cmp y z
same x y z lx ly lz p =
    let e : x.numerator *ℤ pos y.denominator ≡ y.numerator *ℤ pos x.denominator = equal_int_cmp _ _ p in
    cmp_scaled x.numerator z.numerator x.denominator y.denominator z.denominator ly.positive
    ∙ ap (λ (w : ℤ). int_cmp (w *ℤ pos z.denominator) ((z.numerator *ℤ pos y.denominator) *ℤ pos x.denominator)) e
    ∙ ap (λ (w : ℤ). int_cmp w ((z.numerator *ℤ pos y.denominator) *ℤ pos x.denominator)) (swap_factors y.numerator x.denominator z.denominator)
    ∙ int_cmp-mul _ _ x.denominator lx.positive

pub values_in_order : {A : Type 0} (value : A → Fraction) → ((x : A) → IsLowest (value x)) → IsTotalOrder (λ (x y : A). fraction_cmp (value x) (value y))
values_in_order {A} value low =
    record {
      antisymm = λ x y. int_cmp_total.antisymm ((value x).numerator *ℤ pos (value y).denominator) ((value y).numerator *ℤ pos (value x).denominator);
      trans = λ x y z p q. cmp_less_trans (value x) (value y) (value z) (low x) (low y) (low z) p q;
      congr = λ x y z p. same (value x) (value y) (value z) (low x) (low y) (low z) p;
    }

-- the same value in lowest terms is the same fraction
denominator_divides : (x y : Fraction) → IsLowest x → IsLowest y → IsSameValue x y → x.denominator ∣ y.denominator
denominator_divides x y p q e =
    let sizes : unsigned_abs x.numerator * y.denominator ≡ unsigned_abs y.numerator * x.denominator = sym (unsigned_abs-mul x.numerator (pos y.denominator)) ∙ ap unsigned_abs e ∙ unsigned_abs-mul y.numerator (pos x.denominator) in
    dvd_of_coprime x.denominator (unsigned_abs x.numerator) y.denominator (gcd_comm x.denominator (unsigned_abs x.numerator) ∙ p.coprime)
    (subst (λ (n : ℕ). x.denominator ∣ n) (sym sizes) (dvd-mul_left x.denominator (unsigned_abs y.numerator)))

pub lowest_is_unique : (x y : Fraction) → IsLowest x → IsLowest y → IsSameValue x y → x ≡ y
lowest_is_unique x y p q e =
    let same : x.denominator ≡ y.denominator = dvd_antisymm (denominator_divides x y p q e) (denominator_divides y x q p (sym e)) in
    let above : x.numerator ≡ y.numerator = *ℤ_cancel x.denominator _ _ p.positive (ap (λ (n : ℕ). x.numerator *ℤ pos n) same ∙ e) in
    λ i. record { numerator = above i; denominator = same i }

-- ---- the laws of a type of numbers whose values are `value`, for its comparisons
pub values_equal : {A : Type 0} (value : A → Fraction) → ((x : A) → IsLowest (value x)) → IsEquivalence (λ (x y : A). is_eq (fraction_cmp (value x) (value y)))
values_equal value low = eq_by_cmp_equiv (values_in_order value low)

pub values_partly_equal : {A : Type 0} (value : A → Fraction) → ((x : A) → IsLowest (value x)) → IsPartialEquivalence (λ (x y : A). is_eq (fraction_cmp (value x) (value y)))
values_partly_equal value low = partial_equiv_from_equiv (values_equal value low)

pub values_partly_ordered : {A : Type 0} (value : A → Fraction) → ((x : A) → IsLowest (value x)) → IsPartialOrder (λ (x y : A). is_eq (fraction_cmp (value x) (value y))) (λ (x y : A). Some (fraction_cmp (value x) (value y)))
values_partly_ordered value low = po (values_in_order value low) (λ x y. refl)

-- ---- equality and order by the comparison
pub equal_is_same : (x y : Fraction) → IsLowest x → IsLowest y → fraction_cmp x y ≡ Equal → x ≡ y
equal_is_same x y p q e = lowest_is_unique x y p q (equal_int_cmp _ _ e)

pub same_is_equal : (x y : Fraction) → x ≡ y → fraction_cmp x y ≡ Equal
same_is_equal x y e = int_cmp_equal _ _ (ap (λ (f : Fraction). f.numerator *ℤ pos y.denominator) e ∙ ap (λ (f : Fraction). y.numerator *ℤ pos f.denominator) (sym e))

pub cmp_reversed : (x y : Fraction) → fraction_cmp x y ≡ ordering_reverse (fraction_cmp y x)
cmp_reversed x y = int_cmp_total.antisymm (x.numerator *ℤ pos y.denominator) (y.numerator *ℤ pos x.denominator)

-- ---- equality by the parts
pub same_parts : (x y : Fraction) → IsLowest x → IsLowest y → is_eq (fraction_cmp x y) ≡ true → x ≡ y
same_parts x y p q e = lowest_is_unique x y p q (equal_int_cmp _ _ (is_equal (fraction_cmp x y) e))
  where
    is_equal : (o : Ordering) → is_eq o ≡ true → o ≡ Equal
    is_equal Less h = cc
    is_equal Equal h = refl
    is_equal Greater h = cc

pub parts_same : (x y : Fraction) → x ≡ y → is_eq (fraction_cmp x y) ≡ true
parts_same x y e = ap is_eq (same_is_equal x y e)

-- two fractions with the value of a third have the same value
pub same_value_trans : (x y z : Fraction) → 0 < y.denominator → IsSameValue x y → IsSameValue z y → IsSameValue x z
same_value_trans x y z p e f =
    let a = x.numerator in
    let b = x.denominator in
    let d = y.denominator in
    let h = z.denominator in
    *ℤ_cancel d _ _ p
    (swap_factors a h d
    ∙ ap (λ (w : ℤ). w *ℤ pos h) e
    ∙ swap_factors y.numerator b h
    ∙ ap (λ (w : ℤ). w *ℤ pos b) (sym f)
    ∙ swap_factors z.numerator d b)
