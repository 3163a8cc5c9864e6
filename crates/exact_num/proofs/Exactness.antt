-- What an operation answers is the exact value, in lowest terms and within the limit.
use Rattle.std.proofs.Common.{◌≡◌, ◌≢◌, ℕ, suc, ◌*◌, ◌≤◌, [], ◌∷◌, true, ◌&&◌, ℤ, pos, negsuc, neg_ℤ, ◌*ℤ◌, unsigned_abs, arith, refl, ◌∙◌, ap, subst}
use Rattle.std.specs.Prelude.{nat_le}
use Rattle.std.proofs.lemmas.Bool.{and_parts, leb-true}
use Rattle.std.proofs.lemmas.Int.{ints}
use Rattle.std.proofs.Math.Nat.{div-le_self}
use Rattle.arithmetic.proofs.Integers.{*ℤ_cancel}
use Rattle.arithmetic.proofs.Quotients.{unsigned_abs-int_div}
use Rattle.arithmetic.proofs.Products.{products}
use Rattle.arithmetic.proofs.Ring.{ring, V, ◌⊗◌}
use Rattle.exact_num.specs.Fraction.{Fraction, IsSameValue, negated, plain_sum, plain_product}
use Rattle.exact_num.specs.Fits.{size_fits, sum_left, sum_right, sum_total, sum_common, sum_below, sum_value, sum_fits, add_of, product_above, product_below, product_value, product_fits, mul_of, inverse, signed_by, div_of}
use Rattle.exact_num.specs.Laws.{IsWithin, IsExactly, IsQuotient, SumsAreExact, DifferencesAreExact, ProductsAreExact, QuotientsAreExact, ZeroAlwaysFits, OneAlwaysFits, IsOrder}
use Rattle.exact_num.proofs.Values.{sum_is, sum_is_lowest, negated_is_lowest}
use Rattle.exact_num.proofs.ProductValues.{product_is, product_is_lowest, inverse_is_lowest, positive_size}
use Rattle.exact_num.proofs.Order.{equal_is_same, same_is_equal, cmp_reversed, cmp_less_trans}
use Rattle.exact_num.proofs.Differences.{cmp_of_difference}
use Rattle.exact_num.proofs.Units as unit
use Rattle.exact_num.proofs.Answered.{answer_is}

-- ---- sums
pub sum_within : (limit : ℕ) (x y : Fraction) → sum_fits limit x y ≡ true → IsWithin limit (sum_value x y)
unfolding sum_fits sum_value
sum_within limit x y h =
    let outer = and_parts (size_fits limit (sum_left x y) && size_fits limit (sum_right x y) && size_fits limit (sum_total x y)) (nat_le (sum_below x y) limit) h in
    let inner = and_parts (size_fits limit (sum_left x y) && size_fits limit (sum_right x y)) (size_fits limit (sum_total x y)) outer.0 in
    let small : unsigned_abs (sum_total x y) ≤ limit = leb-true _ _ inner.1 in
    record {
      above = rw (unsigned_abs-int_div (sum_total x y) (sum_common x y)) (omega (arith, small, div-le_self (unsigned_abs (sum_total x y)) (sum_common x y)));
      below = leb-true _ _ outer.1;
    }

pub sums_are_exact : SumsAreExact
unfolding add_of
sums_are_exact limit x y s p q h =
    let a = answer_is (sum_fits limit x y) (sum_value x y) s _ h in
    subst (λ (f : Fraction). IsExactly limit f (plain_sum x y)) a.value
    (record { lowest = sum_is_lowest x y p q; within = sum_within limit x y a.passed; same = sum_is x y })

pub differences_are_exact : DifferencesAreExact
differences_are_exact limit x y s p q h = sums_are_exact limit x (negated y) s p (negated_is_lowest y q) h

-- ---- products
pub product_within : (limit : ℕ) (x y : Fraction) → product_fits limit x y ≡ true → IsWithin limit (product_value x y)
unfolding product_fits product_value
product_within limit x y h =
    let parts = and_parts (size_fits limit (product_above x y)) (nat_le (product_below x y) limit) h in
    record { above = leb-true _ _ parts.0; below = leb-true _ _ parts.1 }

pub products_are_exact : ProductsAreExact
unfolding mul_of
products_are_exact limit x y s p q h =
    let a = answer_is (product_fits limit x y) (product_value x y) s _ h in
    subst (λ (f : Fraction). IsExactly limit f (plain_product x y)) a.value
    (record { lowest = product_is_lowest x y p q; within = product_within limit x y a.passed; same = product_is x y })

-- ---- quotients
cross_back : (n : ℤ) (d : ℕ) → signed_by n (pos d) *ℤ n ≡ pos d *ℤ pos (unsigned_abs n)
cross_back (pos n) d = refl
cross_back (negsuc n) d = turned n d
  where
    turned : (n d : ℕ) → neg_ℤ (pos d) *ℤ negsuc n ≡ pos d *ℤ pos (suc n)
    turned n d = omega (arith, ints, products)

-- s * y is x where s is x times the inverse of y
back_cross : (a i c s : ℤ) (b e d t : ℕ) → 1 ≤ e → i *ℤ c ≡ pos d *ℤ pos e → s *ℤ pos (b * e) ≡ (a *ℤ i) *ℤ pos t → (s *ℤ c) *ℤ pos b ≡ a *ℤ pos (t * d)
back_cross a i c s b e d t one h k =
    *ℤ_cancel e ((s *ℤ c) *ℤ pos b) (a *ℤ pos (t * d)) one
    (ring (s ∷ c ∷ pos b ∷ pos e ∷ []) (((V 0 ⊗ V 1) ⊗ V 2) ⊗ V 3) ((V 0 ⊗ (V 2 ⊗ V 3)) ⊗ V 1) refl
    ∙ ap (λ (z : ℤ). z *ℤ c) k
    ∙ ring (a ∷ i ∷ pos t ∷ c ∷ []) (((V 0 ⊗ V 1) ⊗ V 2) ⊗ V 3) ((V 0 ⊗ (V 1 ⊗ V 3)) ⊗ V 2) refl
    ∙ ap (λ (z : ℤ). (a *ℤ z) *ℤ pos t) h
    ∙ ring (a ∷ pos d ∷ pos e ∷ pos t ∷ []) ((V 0 ⊗ (V 1 ⊗ V 2)) ⊗ V 3) ((V 0 ⊗ (V 3 ⊗ V 1)) ⊗ V 2) refl)

quotient_back : (x y s : Fraction) → y.numerator ≢ pos 0 → IsSameValue s (plain_product x (inverse y)) → IsSameValue (plain_product s y) x
unfolding inverse
quotient_back x y s ne h =
    back_cross x.numerator (signed_by y.numerator (pos y.denominator)) y.numerator s.numerator x.denominator (unsigned_abs y.numerator) y.denominator s.denominator
    (positive_size y.numerator ne) (cross_back y.numerator y.denominator) h

pub quotients_are_exact : QuotientsAreExact
unfolding div_of
quotients_are_exact limit x y s p q ne h =
    let a = answer_is (product_fits limit x (inverse y)) (product_value x (inverse y)) s _ h in
    subst (λ (f : Fraction). IsQuotient limit x y f) a.value
    (record { lowest = product_is_lowest x (inverse y) p (inverse_is_lowest y q ne); within = product_within limit x (inverse y) a.passed; same = quotient_back x y _ ne (product_is x (inverse y)) })

-- ---- 0 and 1
pub zero_always_fits : ZeroAlwaysFits
zero_always_fits limit x one low w =
    record {
      plus_zero = unit.add-zero limit x w.above w.below;
      zero_plus = unit.zero-add limit x low w.above w.below;
      less_zero = unit.sub-zero limit x w.above w.below;
      zero_less = unit.zero-sub limit x low w.above w.below;
      times_zero = unit.mul-zero limit x low one;
      zero_times = unit.zero-mul limit x low one;
      zero_over = λ ne. unit.zero-div limit x low ne one;
    }

pub one_always_fits : OneAlwaysFits
one_always_fits limit x one low w =
    record {
      times_one = unit.mul-one_fits limit x w.above w.below;
      one_times = unit.one-mul limit x w.above w.below;
      over_one = unit.div-one limit x w.above w.below;
      less_itself = unit.sub_self limit x low one w.above;
      over_itself = λ ne. unit.div_self limit x low ne one;
    }

pub order_is_of_values : IsOrder
order_is_of_values =
    record {
      equal = λ x y p q. (equal_is_same x y p q, same_is_equal x y);
      reverse = cmp_reversed;
      transitive = cmp_less_trans;
      sign = cmp_of_difference;
    }
