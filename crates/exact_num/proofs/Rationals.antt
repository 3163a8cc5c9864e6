-- The rationals: fractions in lowest terms, so that equal values are equal. They are a field in
-- order.
use Rattle.std.proofs.Common.{List, get_or, ◌≡◌, ℕ, zero, suc, ◌*◌, ◌/◌, ◌<◌, ℤ, pos, negsuc, ◌+ℤ◌, ◌*ℤ◌, ◌<ℤ◌, ◌≤ℤ◌, neg_ℤ, unsigned_abs, int_div, arith, refl, sym, ◌∙◌, ap, subst, [], ◌∷◌, lit<, ◌≢◌}
use Rattle.std.specs.Prelude.{Ok}
use Rattle.std.proofs.Math.Nat.{mul-pos, div-mul_cancel}
use Rattle.std.proofs.Math.Path.{to_path_p}
use Rattle.std.proofs.lemmas.Int.{ints}
use Rattle.arithmetic.specs.Gcd.{gcd}
use Rattle.arithmetic.proofs.GcdLaws.{gcd_dvd_left, gcd_dvd_right}
use Rattle.arithmetic.proofs.Integers.{*ℤ_cancel, *ℤ_cancel_le, *ℤ_mono}
use Rattle.arithmetic.proofs.Quotients.{int_div-mul_cancel}
use Rattle.arithmetic.proofs.Products.{products, neg_cross}
use Rattle.arithmetic.proofs.Ring.{ring, V, K, ◌⊕◌, ◌⊗◌}
use Rattle.exact_num.specs.Rationals.{Q, value, ◌+Q◌, ◌*Q◌, neg_Q, whole_Q, 0Q, 1Q, quotient_of, IsNotBelow0, IsAbove0, IsAtMost, inv_Q}
use Rattle.exact_num.specs.Fraction.{Fraction, IsLowest, IsSameValue, AtMost, whole, negated, reduced, plain_sum, plain_product, plain_dot}
use Rattle.exact_num.specs.Fits.{add_of, sub_of, mul_of, div_of, sum_value, sum_fits, product_value, product_fits, inverse, signed_by}
use Rattle.exact_num.proofs.Values.{lowest_prop, negated_is_lowest, sum_is, sum_is_lowest}
use Rattle.exact_num.proofs.ProductValues.{positive_size, product_is, product_is_lowest, inverse_is_lowest}
use Rattle.exact_num.proofs.Order.{lowest_is_unique}
use Rattle.exact_num.proofs.Answered.{answer_is}

pub same_fraction : (x y : Q) → x.fraction ≡ y.fraction → x ≡ y
same_fraction x y e = λ i. record { fraction = e i; lowest = to_path_p (λ i. IsLowest (e i)) {a = x.lowest} {b = y.lowest} (lowest_prop _ _ _) i }

-- x is p / d
abbrev pub Is : Q → ℤ → ℕ → Type 0
Is x p d = (0 < d) × (x.fraction.numerator *ℤ pos d ≡ p *ℤ pos x.fraction.denominator)

pub quotient_is : (n : ℤ) (d : ℕ) → 0 < d → Is (quotient_of n d) n d
unfolding quotient_of reduced
quotient_is n zero p = absurd (omega arith)
quotient_is n (suc d) p =
    let a = unsigned_abs n in
    let g = gcd a (suc d) in
    let above : int_div n (pos g) *ℤ pos g ≡ n = int_div-mul_cancel n g (gcd_dvd_left a (suc d)) in
    let below : suc d / g * g ≡ suc d = div-mul_cancel g (gcd_dvd_right a (suc d)) in
    let q : ℤ = int_div n (pos g) in
    let e : ℕ = suc d / g in
    (p, ap (λ (m : ℕ). q *ℤ pos m) (sym below) ∙ ring (q ∷ pos e ∷ pos g ∷ []) (V 0 ⊗ (V 1 ⊗ V 2)) ((V 0 ⊗ V 2) ⊗ V 1) refl ∙ ap (λ (z : ℤ). z *ℤ pos e) above)

pub value_is : (x : Fraction) → 0 < x.denominator → Is (value x) x.numerator x.denominator
unfolding value
value_is x p = quotient_is x.numerator x.denominator p

-- what is p / d and r / e is one, where the two are the same
pub same_of : (x y : Q) (p r : ℤ) (d e : ℕ) → Is x p d → Is y r e → p *ℤ pos e ≡ r *ℤ pos d → x ≡ y
same_of x y p r d e h k same =
    let a : ℤ = x.fraction.numerator in
    let b : ℕ = x.fraction.denominator in
    let c : ℤ = y.fraction.numerator in
    let f : ℕ = y.fraction.denominator in
    let cross : a *ℤ pos f ≡ c *ℤ pos b =
    *ℤ_cancel (d * e) _ _ (mul-pos h.0 k.0)
    (ring (a ∷ pos f ∷ pos d ∷ pos e ∷ []) ((V 0 ⊗ V 1) ⊗ (V 2 ⊗ V 3)) ((V 0 ⊗ V 2) ⊗ (V 1 ⊗ V 3)) refl
    ∙ ap (λ (z : ℤ). z *ℤ pos (f * e)) h.1
    ∙ ring (p ∷ pos b ∷ pos f ∷ pos e ∷ []) ((V 0 ⊗ V 1) ⊗ (V 2 ⊗ V 3)) ((V 0 ⊗ V 3) ⊗ (V 1 ⊗ V 2)) refl
    ∙ ap (λ (z : ℤ). z *ℤ pos (b * f)) same
    ∙ ring (r ∷ pos d ∷ pos b ∷ pos f ∷ []) ((V 0 ⊗ V 1) ⊗ (V 2 ⊗ V 3)) ((V 0 ⊗ V 3) ⊗ (V 1 ⊗ V 2)) refl
    ∙ ap (λ (z : ℤ). z *ℤ pos (d * b)) (sym k.1)
    ∙ ring (c ∷ pos e ∷ pos d ∷ pos b ∷ []) ((V 0 ⊗ V 1) ⊗ (V 2 ⊗ V 3)) ((V 0 ⊗ V 3) ⊗ (V 2 ⊗ V 1)) refl) in
    same_fraction x y (lowest_is_unique _ _ x.lowest y.lowest cross)

-- ---- what the operations give
pub sum_Q_is : (x y : Q) (p r : ℤ) (d e : ℕ) → Is x p d → Is y r e → Is (x +Q y) (p *ℤ pos e +ℤ r *ℤ pos d) (d * e)
unfolding ◌+Q◌
sum_Q_is x y p r d e h k =
    let a : ℤ = x.fraction.numerator in
    let b : ℕ = x.fraction.denominator in
    let c : ℤ = y.fraction.numerator in
    let f : ℕ = y.fraction.denominator in
    let v = value_is (plain_sum x.fraction y.fraction) (mul-pos x.lowest.positive y.lowest.positive) in
    let s : ℤ = (value (plain_sum x.fraction y.fraction)).fraction.numerator in
    let t : ℕ = (value (plain_sum x.fraction y.fraction)).fraction.denominator in (
      mul-pos h.0 k.0,
      *ℤ_cancel (b * f) _ _ (mul-pos x.lowest.positive y.lowest.positive)
          (ring (s ∷ pos d ∷ pos e ∷ pos b ∷ pos f ∷ []) ((V 0 ⊗ (V 1 ⊗ V 2)) ⊗ (V 3 ⊗ V 4)) ((V 0 ⊗ (V 3 ⊗ V 4)) ⊗ (V 1 ⊗ V 2)) refl
          ∙ ap (λ (z : ℤ). z *ℤ pos (d * e)) v.1
          ∙ ring (a ∷ pos f ∷ c ∷ pos b ∷ pos t ∷ pos d ∷ pos e ∷ []) (((V 0 ⊗ V 1 ⊕ V 2 ⊗ V 3) ⊗ V 4) ⊗ (V 5 ⊗ V 6)) ((V 0 ⊗ V 5) ⊗ (V 1 ⊗ V 6 ⊗ V 4) ⊕ (V 2 ⊗ V 6) ⊗ (V 3 ⊗ V 5 ⊗ V 4)) refl
          ∙ ap (λ (z : ℤ). z *ℤ pos (f * e * t) +ℤ (c *ℤ pos e) *ℤ pos (b * d * t)) h.1
          ∙ ap (λ (z : ℤ). (p *ℤ pos b) *ℤ pos (f * e * t) +ℤ z *ℤ pos (b * d * t)) k.1
          ∙ ring (p ∷ pos b ∷ pos f ∷ pos e ∷ pos t ∷ r ∷ pos d ∷ []) ((V 0 ⊗ V 1) ⊗ (V 2 ⊗ V 3 ⊗ V 4) ⊕ (V 5 ⊗ V 2) ⊗ (V 1 ⊗ V 6 ⊗ V 4)) (((V 0 ⊗ V 3 ⊕ V 5 ⊗ V 6) ⊗ V 4) ⊗ (V 1 ⊗ V 2)) refl),
    )

pub product_Q_is : (x y : Q) (p r : ℤ) (d e : ℕ) → Is x p d → Is y r e → Is (x *Q y) (p *ℤ r) (d * e)
unfolding ◌*Q◌
product_Q_is x y p r d e h k =
    let a : ℤ = x.fraction.numerator in
    let b : ℕ = x.fraction.denominator in
    let c : ℤ = y.fraction.numerator in
    let f : ℕ = y.fraction.denominator in
    let v = value_is (plain_product x.fraction y.fraction) (mul-pos x.lowest.positive y.lowest.positive) in
    let s : ℤ = (value (plain_product x.fraction y.fraction)).fraction.numerator in
    let t : ℕ = (value (plain_product x.fraction y.fraction)).fraction.denominator in (
      mul-pos h.0 k.0,
      *ℤ_cancel (b * f) _ _ (mul-pos x.lowest.positive y.lowest.positive)
          (ring (s ∷ pos d ∷ pos e ∷ pos b ∷ pos f ∷ []) ((V 0 ⊗ (V 1 ⊗ V 2)) ⊗ (V 3 ⊗ V 4)) ((V 0 ⊗ (V 3 ⊗ V 4)) ⊗ (V 1 ⊗ V 2)) refl
          ∙ ap (λ (z : ℤ). z *ℤ pos (d * e)) v.1
          ∙ ring (a ∷ c ∷ pos t ∷ pos d ∷ pos e ∷ []) (((V 0 ⊗ V 1) ⊗ V 2) ⊗ (V 3 ⊗ V 4)) ((V 0 ⊗ V 3) ⊗ ((V 1 ⊗ V 4) ⊗ V 2)) refl
          ∙ ap (λ (z : ℤ). z *ℤ ((c *ℤ pos e) *ℤ pos t)) h.1
          ∙ ap (λ (z : ℤ). (p *ℤ pos b) *ℤ (z *ℤ pos t)) k.1
          ∙ ring (p ∷ pos b ∷ r ∷ pos f ∷ pos t ∷ []) ((V 0 ⊗ V 1) ⊗ ((V 2 ⊗ V 3) ⊗ V 4)) (((V 0 ⊗ V 2) ⊗ V 4) ⊗ (V 1 ⊗ V 3)) refl),
    )

pub neg_Q_is : (x : Q) (p : ℤ) (d : ℕ) → Is x p d → Is (neg_Q x) (neg_ℤ p) d
unfolding neg_Q
neg_Q_is x p d h =
    let a : ℤ = x.fraction.numerator in
    let b : ℕ = x.fraction.denominator in
    let v = value_is (negated x.fraction) x.lowest.positive in
    let s : ℤ = (value (negated x.fraction)).fraction.numerator in
    let t : ℕ = (value (negated x.fraction)).fraction.denominator in (
      h.0,
      *ℤ_cancel b _ _ x.lowest.positive
          (ring (s ∷ pos d ∷ pos b ∷ []) ((V 0 ⊗ V 1) ⊗ V 2) ((V 0 ⊗ V 2) ⊗ V 1) refl
          ∙ ap (λ (z : ℤ). z *ℤ pos d) v.1
          ∙ ring (neg_ℤ a ∷ pos t ∷ pos d ∷ []) ((V 0 ⊗ V 1) ⊗ V 2) ((V 0 ⊗ V 2) ⊗ V 1) refl
          ∙ ap (λ (z : ℤ). z *ℤ pos t) (neg_cross a p d b h.1)
          ∙ ring (neg_ℤ p ∷ pos b ∷ pos t ∷ []) ((V 0 ⊗ V 1) ⊗ V 2) ((V 0 ⊗ V 2) ⊗ V 1) refl),
    )

pub whole_Q_is : (z : ℤ) → Is (whole_Q z) z 1
unfolding whole_Q
whole_Q_is z = value_is (whole z) (lit< tt)

pub itself_is : (x : Q) → Is x x.fraction.numerator x.fraction.denominator
itself_is x = (x.lowest.positive, refl)

-- ---- the laws of a ring
pub add_comm : (x y : Q) → x +Q y ≡ y +Q x
add_comm x y =
    let a : ℤ = x.fraction.numerator in
    let b : ℕ = x.fraction.denominator in
    let c : ℤ = y.fraction.numerator in
    let d : ℕ = y.fraction.denominator in
    same_of _ _ _ _ _ _ (sum_Q_is x y a c b d (itself_is x) (itself_is y)) (sum_Q_is y x c a d b (itself_is y) (itself_is x))
    (ring (a ∷ pos b ∷ c ∷ pos d ∷ []) ((V 0 ⊗ V 3 ⊕ V 2 ⊗ V 1) ⊗ (V 3 ⊗ V 1)) ((V 2 ⊗ V 1 ⊕ V 0 ⊗ V 3) ⊗ (V 1 ⊗ V 3)) refl)

pub add_assoc : (x y z : Q) → (x +Q y) +Q z ≡ x +Q (y +Q z)
add_assoc x y z =
    let a : ℤ = x.fraction.numerator in
    let b : ℕ = x.fraction.denominator in
    let c : ℤ = y.fraction.numerator in
    let d : ℕ = y.fraction.denominator in
    let e : ℤ = z.fraction.numerator in
    let f : ℕ = z.fraction.denominator in
    same_of _ _ _ _ _ _ (sum_Q_is (x +Q y) z _ e _ f (sum_Q_is x y a c b d (itself_is x) (itself_is y)) (itself_is z)) (sum_Q_is x (y +Q z) a _ b _ (itself_is x) (sum_Q_is y z c e d f (itself_is y) (itself_is z)))
    (ring (a ∷ pos b ∷ c ∷ pos d ∷ e ∷ pos f ∷ []) (((V 0 ⊗ V 3 ⊕ V 2 ⊗ V 1) ⊗ V 5 ⊕ V 4 ⊗ (V 1 ⊗ V 3)) ⊗ (V 1 ⊗ (V 3 ⊗ V 5))) ((V 0 ⊗ (V 3 ⊗ V 5) ⊕ (V 2 ⊗ V 5 ⊕ V 4 ⊗ V 3) ⊗ V 1) ⊗ ((V 1 ⊗ V 3) ⊗ V 5)) refl)

zero_is : Is 0Q (pos 0) 1
unfolding 0Q
zero_is = whole_Q_is (pos 0)

one_is : Is 1Q (pos 1) 1
unfolding 1Q
one_is = whole_Q_is (pos 1)

pub add_0 : (x : Q) → x +Q 0Q ≡ x
add_0 x =
    let a : ℤ = x.fraction.numerator in
    let b : ℕ = x.fraction.denominator in
    same_of _ _ _ _ _ _ (sum_Q_is x 0Q a (pos 0) b 1 (itself_is x) zero_is) (itself_is x)
    (ring (a ∷ pos b ∷ []) ((V 0 ⊗ K (pos 1) ⊕ K (pos 0) ⊗ V 1) ⊗ V 1) (V 0 ⊗ (V 1 ⊗ K (pos 1))) refl)

pub zero_add_Q : (x : Q) → 0Q +Q x ≡ x
zero_add_Q x = add_comm 0Q x ∙ add_0 x

neg_cancels : (a : ℤ) (b : ℕ) → (a *ℤ pos b +ℤ neg_ℤ a *ℤ pos b) *ℤ pos 1 ≡ pos 0 *ℤ pos (b * b)
neg_cancels a b = omega (arith, ints, products)

pub add_neg : (x : Q) → x +Q neg_Q x ≡ 0Q
add_neg x =
    let a : ℤ = x.fraction.numerator in
    let b : ℕ = x.fraction.denominator in
    same_of _ _ _ (pos 0) _ _ (sum_Q_is x (neg_Q x) a (neg_ℤ a) b b (itself_is x) (neg_Q_is x a b (itself_is x))) zero_is (neg_cancels a b)

pub mul_comm_Q : (x y : Q) → x *Q y ≡ y *Q x
mul_comm_Q x y =
    let a : ℤ = x.fraction.numerator in
    let b : ℕ = x.fraction.denominator in
    let c : ℤ = y.fraction.numerator in
    let d : ℕ = y.fraction.denominator in
    same_of _ _ _ _ _ _ (product_Q_is x y a c b d (itself_is x) (itself_is y)) (product_Q_is y x c a d b (itself_is y) (itself_is x))
    (ring (a ∷ pos b ∷ c ∷ pos d ∷ []) ((V 0 ⊗ V 2) ⊗ (V 3 ⊗ V 1)) ((V 2 ⊗ V 0) ⊗ (V 1 ⊗ V 3)) refl)

pub mul_assoc_Q : (x y z : Q) → (x *Q y) *Q z ≡ x *Q (y *Q z)
mul_assoc_Q x y z =
    let a : ℤ = x.fraction.numerator in
    let b : ℕ = x.fraction.denominator in
    let c : ℤ = y.fraction.numerator in
    let d : ℕ = y.fraction.denominator in
    let e : ℤ = z.fraction.numerator in
    let f : ℕ = z.fraction.denominator in
    same_of _ _ _ _ _ _ (product_Q_is (x *Q y) z _ e _ f (product_Q_is x y a c b d (itself_is x) (itself_is y)) (itself_is z)) (product_Q_is x (y *Q z) a _ b _ (itself_is x) (product_Q_is y z c e d f (itself_is y) (itself_is z)))
    (ring (a ∷ pos b ∷ c ∷ pos d ∷ e ∷ pos f ∷ []) (((V 0 ⊗ V 2) ⊗ V 4) ⊗ (V 1 ⊗ (V 3 ⊗ V 5))) ((V 0 ⊗ (V 2 ⊗ V 4)) ⊗ ((V 1 ⊗ V 3) ⊗ V 5)) refl)

pub mul_1 : (x : Q) → x *Q 1Q ≡ x
mul_1 x =
    let a : ℤ = x.fraction.numerator in
    let b : ℕ = x.fraction.denominator in
    same_of _ _ _ _ _ _ (product_Q_is x 1Q a (pos 1) b 1 (itself_is x) one_is) (itself_is x)
    (ring (a ∷ pos b ∷ []) ((V 0 ⊗ K (pos 1)) ⊗ V 1) (V 0 ⊗ (V 1 ⊗ K (pos 1))) refl)

pub mul_0 : (x : Q) → x *Q 0Q ≡ 0Q
mul_0 x =
    let a : ℤ = x.fraction.numerator in
    let b : ℕ = x.fraction.denominator in
    same_of _ _ _ (pos 0) _ _ (product_Q_is x 0Q a (pos 0) b 1 (itself_is x) zero_is) zero_is
    (ring (a ∷ pos b ∷ []) ((V 0 ⊗ K (pos 0)) ⊗ K (pos 1)) (K (pos 0) ⊗ (V 1 ⊗ K (pos 1))) refl)

pub one_mul_Q : (x : Q) → 1Q *Q x ≡ x
one_mul_Q x = mul_comm_Q 1Q x ∙ mul_1 x

pub zero_mul_Q : (x : Q) → 0Q *Q x ≡ 0Q
zero_mul_Q x = mul_comm_Q 0Q x ∙ mul_0 x

pub distl : (x y z : Q) → x *Q (y +Q z) ≡ x *Q y +Q x *Q z
distl x y z =
    let a : ℤ = x.fraction.numerator in
    let b : ℕ = x.fraction.denominator in
    let c : ℤ = y.fraction.numerator in
    let d : ℕ = y.fraction.denominator in
    let e : ℤ = z.fraction.numerator in
    let f : ℕ = z.fraction.denominator in
    same_of _ _ _ _ _ _
    (product_Q_is x (y +Q z) a _ b _ (itself_is x) (sum_Q_is y z c e d f (itself_is y) (itself_is z)))
    (sum_Q_is (x *Q y) (x *Q z) _ _ _ _ (product_Q_is x y a c b d (itself_is x) (itself_is y)) (product_Q_is x z a e b f (itself_is x) (itself_is z)))
    (ring (a ∷ pos b ∷ c ∷ pos d ∷ e ∷ pos f ∷ []) ((V 0 ⊗ (V 2 ⊗ V 5 ⊕ V 4 ⊗ V 3)) ⊗ ((V 1 ⊗ V 3) ⊗ (V 1 ⊗ V 5))) (((V 0 ⊗ V 2) ⊗ (V 1 ⊗ V 5) ⊕ (V 0 ⊗ V 4) ⊗ (V 1 ⊗ V 3)) ⊗ (V 1 ⊗ (V 3 ⊗ V 5))) refl)

pub distr : (x y z : Q) → (x +Q y) *Q z ≡ x *Q z +Q y *Q z
distr x y z = mul_comm_Q (x +Q y) z ∙ distl z x y ∙ ap (λ w. w +Q z *Q y) (mul_comm_Q z x) ∙ ap (λ w. x *Q z +Q w) (mul_comm_Q z y)

-- what is left when the same is taken away
pub add_cancel : (x y z : Q) → x +Q z ≡ y +Q z → x ≡ y
add_cancel x y z h =
    let back : (w : Q) → (w +Q z) +Q neg_Q z ≡ w = λ w. add_assoc w z (neg_Q z) ∙ ap (λ v. w +Q v) (add_neg z) ∙ add_0 w in
    sym (back x) ∙ ap (λ w. w +Q neg_Q z) h ∙ back y

neg_unique : (x y : Q) → x +Q y ≡ 0Q → y ≡ neg_Q x
neg_unique x y h = add_cancel y (neg_Q x) x (add_comm y x ∙ h ∙ sym (add_neg x) ∙ add_comm x (neg_Q x))

pub neg_mul : (x y : Q) → neg_Q x *Q y ≡ neg_Q (x *Q y)
neg_mul x y = neg_unique (x *Q y) (neg_Q x *Q y) (sym (distr x (neg_Q x) y) ∙ ap (λ w. w *Q y) (add_neg x) ∙ zero_mul_Q y)

pub mul_neg : (x y : Q) → x *Q neg_Q y ≡ neg_Q (x *Q y)
mul_neg x y = mul_comm_Q x (neg_Q y) ∙ neg_mul y x ∙ ap neg_Q (mul_comm_Q y x)

pub neg_neg : (x : Q) → neg_Q (neg_Q x) ≡ x
neg_neg x = sym (neg_unique (neg_Q x) x (add_comm (neg_Q x) x ∙ add_neg x))

pub neg_0 : neg_Q 0Q ≡ 0Q
neg_0 = sym (zero_add_Q (neg_Q 0Q)) ∙ add_neg 0Q

pub add_left_comm : (x y z : Q) → x +Q (y +Q z) ≡ y +Q (x +Q z)
add_left_comm x y z = sym (add_assoc x y z) ∙ ap (λ w. w +Q z) (add_comm x y) ∙ add_assoc y x z

pub mul_left_comm : (x y z : Q) → x *Q (y *Q z) ≡ y *Q (x *Q z)
mul_left_comm x y z = sym (mul_assoc_Q x y z) ∙ ap (λ w. w *Q z) (mul_comm_Q x y) ∙ mul_assoc_Q y x z

pub neg_add : (x y : Q) → neg_Q (x +Q y) ≡ neg_Q x +Q neg_Q y
neg_add x y = sym (neg_unique (x +Q y) (neg_Q x +Q neg_Q y) (add_assoc x y _ ∙ ap (λ w. x +Q w) (add_left_comm y (neg_Q x) (neg_Q y) ∙ ap (λ w. neg_Q x +Q w) (add_neg y) ∙ add_0 _) ∙ add_neg x))

-- sums of products in one order, for `simp`
pub ruleset rationals = (add_0, zero_add_Q, mul_1, one_mul_Q, mul_0, zero_mul_Q, distl, distr, neg_mul, mul_neg, neg_neg, neg_0, neg_add, add_assoc, add_comm, add_left_comm, mul_assoc_Q, mul_comm_Q, mul_left_comm)

example_step : (a f b z E G : Q) → (a +Q neg_Q (f *Q b)) *Q z +Q (E +Q neg_Q (f *Q G)) ≡ (a *Q z +Q E) +Q neg_Q (f *Q (b *Q z +Q G))
example_step a f b z E G = simp rationals

-- ---- the signs
not_below_mul : (p : ℤ) (n : ℕ) → pos 0 ≤ℤ p → pos 0 ≤ℤ (p *ℤ pos n)
not_below_mul p n h = omega (arith, ints, *ℤ_mono n (pos 0) p h)

sign_out : (a p : ℤ) (d b : ℕ) → 0 < b → a *ℤ pos d ≡ p *ℤ pos b → pos 0 ≤ℤ a → pos 0 ≤ℤ p
sign_out a p d b pb h k =
    let e : pos 0 ≤ℤ (p *ℤ pos b) = subst (λ (z : ℤ). pos 0 ≤ℤ z) h (not_below_mul a d k) in
    *ℤ_cancel_le b (pos 0) p (omega arith) (omega (arith, ints, e))

pub not_below_is : (x : Q) (p : ℤ) (d : ℕ) → Is x p d → pos 0 ≤ℤ p → IsNotBelow0 x
not_below_is x p d h k = sign_out p x.fraction.numerator x.fraction.denominator d h.0 (sym h.1) k

pub not_below_out : (x : Q) (p : ℤ) (d : ℕ) → Is x p d → IsNotBelow0 x → pos 0 ≤ℤ p
not_below_out x p d h k = sign_out x.fraction.numerator p d x.fraction.denominator x.lowest.positive h.1 k

sum_not_below : (p r : ℤ) → pos 0 ≤ℤ p → pos 0 ≤ℤ r → pos 0 ≤ℤ (p +ℤ r)
sum_not_below p r h k = omega (arith, ints, h, k)

product_not_below : (p r : ℤ) → pos 0 ≤ℤ p → pos 0 ≤ℤ r → pos 0 ≤ℤ (p *ℤ r)
product_not_below (pos a) (pos b) h k = omega (arith, ints)
product_not_below (pos a) (negsuc b) h k = absurd (omega (arith, ints, k))
product_not_below (negsuc a) r h k = absurd (omega (arith, ints, h))

pub add_not_below : (x y : Q) → IsNotBelow0 x → IsNotBelow0 y → IsNotBelow0 (x +Q y)
add_not_below x y h k =
    let a : ℤ = x.fraction.numerator in
    let b : ℕ = x.fraction.denominator in
    let c : ℤ = y.fraction.numerator in
    let d : ℕ = y.fraction.denominator in
    not_below_is (x +Q y) _ _ (sum_Q_is x y a c b d (itself_is x) (itself_is y)) (sum_not_below (a *ℤ pos d) (c *ℤ pos b) (not_below_mul a d h) (not_below_mul c b k))

pub mul_not_below : (x y : Q) → IsNotBelow0 x → IsNotBelow0 y → IsNotBelow0 (x *Q y)
mul_not_below x y h k =
    not_below_is (x *Q y) _ _ (product_Q_is x y _ _ _ _ (itself_is x) (itself_is y)) (product_not_below x.fraction.numerator y.fraction.numerator h k)

pub zero_not_below : IsNotBelow0 0Q
zero_not_below = not_below_is 0Q (pos 0) 1 zero_is (omega (arith, ints))

pub one_not_below : IsNotBelow0 1Q
one_not_below = not_below_is 1Q (pos 1) 1 one_is (omega (arith, ints))

neg_sign : (p : ℤ) → p ≤ℤ pos 0 → pos 0 ≤ℤ neg_ℤ p
neg_sign p h = omega (arith, ints, h)

-- what is at most 0 is not below 0 when its sign is turned
pub neg_not_below : (x : Q) → x.fraction.numerator ≤ℤ pos 0 → IsNotBelow0 (neg_Q x)
neg_not_below x h = not_below_is (neg_Q x) _ _ (neg_Q_is x _ _ (itself_is x)) (neg_sign _ h)

-- one number is not 0
pub one_not_zero : 1Q ≡ 0Q → ⊥
one_not_zero e =
    let h : pos 0 ≤ℤ negsuc 0 = not_below_out (neg_Q 1Q) (neg_ℤ (pos 1)) 1 (neg_Q_is 1Q (pos 1) 1 one_is) (subst IsNotBelow0 (sym (ap neg_Q e ∙ neg_0)) zero_not_below) in
    omega (arith, ints, h)

-- what is below 0 is not 0
zero_numerator : (a : ℤ) (b : ℕ) → 0 < b → a *ℤ pos 1 ≡ pos 0 *ℤ pos b → a ≡ pos 0
zero_numerator a b p h = omega (arith, ints, h)

pub zero_has : (x : Q) → x ≡ 0Q → x.fraction.numerator ≡ pos 0
zero_has x e =
    let z = subst (λ (w : Q). Is w (pos 0) 1) (sym e) zero_is in
    zero_numerator x.fraction.numerator x.fraction.denominator x.lowest.positive z.1

-- ---- the order
cross_order : (a c : ℤ) (b d : ℕ) → (a *ℤ pos d) ≤ℤ (c *ℤ pos b) → pos 0 ≤ℤ (c *ℤ pos b +ℤ neg_ℤ a *ℤ pos d)
cross_order a c b d h = omega (arith, ints, products, h)

cross_order_out : (a c : ℤ) (b d : ℕ) → pos 0 ≤ℤ (c *ℤ pos b +ℤ neg_ℤ a *ℤ pos d) → (a *ℤ pos d) ≤ℤ (c *ℤ pos b)
cross_order_out a c b d h = omega (arith, ints, products, h)

pub at_most_is : (x y : Q) (p r : ℤ) (d e : ℕ) → Is x p d → Is y r e → (p *ℤ pos e) ≤ℤ (r *ℤ pos d) → IsAtMost x y
at_most_is x y p r d e h k le = not_below_is (y +Q neg_Q x) _ _ (sum_Q_is y (neg_Q x) r (neg_ℤ p) e d k (neg_Q_is x p d h)) (cross_order p r d e le)

pub at_most_out : (x y : Q) (p r : ℤ) (d e : ℕ) → Is x p d → Is y r e → IsAtMost x y → (p *ℤ pos e) ≤ℤ (r *ℤ pos d)
at_most_out x y p r d e h k le = cross_order_out p r d e (not_below_out (y +Q neg_Q x) _ _ (sum_Q_is y (neg_Q x) r (neg_ℤ p) e d k (neg_Q_is x p d h)) le)

-- y is x and what is not below 0
pub at_most_of_sum : (x s y : Q) → x +Q s ≡ y → IsNotBelow0 s → IsAtMost x y
at_most_of_sum x s y e h =
    let f : y +Q neg_Q x ≡ s = ap (λ w. w +Q neg_Q x) (sym e ∙ add_comm x s) ∙ add_assoc s x (neg_Q x) ∙ ap (λ w. s +Q w) (add_neg x) ∙ add_0 s in
    subst IsNotBelow0 (sym f) h

pub at_most_refl : (x : Q) → IsAtMost x x
at_most_refl x = subst IsNotBelow0 (sym (add_neg x)) zero_not_below

pub at_most_trans : (x y z : Q) → IsAtMost x y → IsAtMost y z → IsAtMost x z
at_most_trans x y z h k =
    let e : (z +Q neg_Q y) +Q (y +Q neg_Q x) ≡ z +Q neg_Q x =
    add_assoc z (neg_Q y) _ ∙ ap (λ w. z +Q w) (sym (add_assoc (neg_Q y) y (neg_Q x)) ∙ ap (λ w. w +Q neg_Q x) (add_comm (neg_Q y) y ∙ add_neg y) ∙ zero_add_Q (neg_Q x)) in
    subst IsNotBelow0 e (add_not_below _ _ k h)

-- ---- the inverse
inv_Q_is : (x : Q) → x.fraction.numerator ≢ pos 0 → Is (inv_Q x) (signed_by x.fraction.numerator (pos x.fraction.denominator)) (unsigned_abs x.fraction.numerator)
unfolding inv_Q inverse
inv_Q_is x ne = value_is (inverse x.fraction) (positive_size x.fraction.numerator ne)

cross_inverse : (n : ℤ) (d : ℕ) → (n *ℤ signed_by n (pos d)) *ℤ pos 1 ≡ pos 1 *ℤ pos (d * unsigned_abs n)
cross_inverse (pos n) d = omega (arith, ints)
cross_inverse (negsuc n) d = turned n d
  where
    turned : (n d : ℕ) → (negsuc n *ℤ neg_ℤ (pos d)) *ℤ pos 1 ≡ pos 1 *ℤ pos (d * suc n)
    turned n d = omega (arith, ints, products)

pub mul_inv : (x : Q) → x.fraction.numerator ≢ pos 0 → x *Q inv_Q x ≡ 1Q
mul_inv x ne =
    let a : ℤ = x.fraction.numerator in
    let b : ℕ = x.fraction.denominator in
    same_of _ _ _ (pos 1) _ _ (product_Q_is x (inv_Q x) a _ b _ (itself_is x) (inv_Q_is x ne)) one_is (cross_inverse a b)

signed_not_below : (n : ℤ) (d : ℕ) → pos 0 <ℤ n → pos 0 ≤ℤ signed_by n (pos d)
signed_not_below (pos n) d h = omega (arith, ints)
signed_not_below (negsuc n) d h = absurd (omega (arith, ints, h))

pub above_not_zero : (n : ℤ) → pos 0 <ℤ n → n ≢ pos 0
above_not_zero n h e = omega (arith, ints, h, e)

pub above_is_not_zero : (x : Q) → IsAbove0 x → x.fraction.numerator ≢ pos 0
above_is_not_zero x h = above_not_zero x.fraction.numerator h

pub inv_not_below : (x : Q) → IsAbove0 x → IsNotBelow0 (inv_Q x)
inv_not_below x h = not_below_is (inv_Q x) _ _ (inv_Q_is x (above_not_zero x.fraction.numerator h)) (signed_not_below x.fraction.numerator x.fraction.denominator h)

-- ---- the values of fractions
pub value_of_lowest : (x : Fraction) → IsLowest x → (value x).fraction ≡ x
value_of_lowest x p = lowest_is_unique _ _ (value x).lowest p (value_is x p.positive).1

pub value_same : (x y : Fraction) → 0 < x.denominator → 0 < y.denominator → value x ≡ value y → IsSameValue x y
value_same x y p q e =
    let h = value_is x p in
    let k = value_is y q in
    let a : ℤ = (value x).fraction.numerator in
    let b : ℕ = (value x).fraction.denominator in
    let k' : a *ℤ pos y.denominator ≡ y.numerator *ℤ pos b = subst (λ (w : Q). w.fraction.numerator *ℤ pos y.denominator ≡ y.numerator *ℤ pos w.fraction.denominator) (sym e) k.1 in
    *ℤ_cancel b _ _ (value x).lowest.positive
    (ring (x.numerator ∷ pos y.denominator ∷ pos b ∷ []) ((V 0 ⊗ V 1) ⊗ V 2) ((V 0 ⊗ V 2) ⊗ V 1) refl
    ∙ ap (λ (z : ℤ). z *ℤ pos y.denominator) (sym h.1)
    ∙ ring (a ∷ pos x.denominator ∷ pos y.denominator ∷ []) ((V 0 ⊗ V 1) ⊗ V 2) ((V 0 ⊗ V 2) ⊗ V 1) refl
    ∙ ap (λ (z : ℤ). z *ℤ pos x.denominator) k'
    ∙ ring (y.numerator ∷ pos b ∷ pos x.denominator ∷ []) ((V 0 ⊗ V 1) ⊗ V 2) ((V 0 ⊗ V 2) ⊗ V 1) refl)

same_value : (x y : Fraction) → 0 < x.denominator → 0 < y.denominator → IsSameValue x y → value x ≡ value y
same_value x y p q e = same_of (value x) (value y) x.numerator y.numerator x.denominator y.denominator (value_is x p) (value_is y q) e

pub value_sum : (x y : Fraction) → 0 < x.denominator → 0 < y.denominator → value (plain_sum x y) ≡ value x +Q value y
value_sum x y p q =
    let s = plain_sum x y in
    same_of _ _ _ _ _ _ (value_is s (mul-pos p q)) (sum_Q_is (value x) (value y) _ _ _ _ (value_is x p) (value_is y q)) refl

pub value_product : (x y : Fraction) → 0 < x.denominator → 0 < y.denominator → value (plain_product x y) ≡ value x *Q value y
value_product x y p q =
    let s = plain_product x y in
    same_of _ _ _ _ _ _ (value_is s (mul-pos p q)) (product_Q_is (value x) (value y) _ _ _ _ (value_is x p) (value_is y q)) refl

pub value_negated : (x : Fraction) → 0 < x.denominator → value (negated x) ≡ neg_Q (value x)
value_negated x p = same_of _ _ _ _ _ _ (value_is (negated x) p) (neg_Q_is (value x) _ _ (value_is x p)) refl

pub value_whole : (z : ℤ) → value (whole z) ≡ whole_Q z
unfolding whole_Q
value_whole z = refl

pub value_zero : value (whole (pos 0)) ≡ 0Q
unfolding 0Q whole_Q
value_zero = refl

pub value_one : value (whole (pos 1)) ≡ 1Q
unfolding 1Q whole_Q
value_one = refl

-- ---- a step that fits has the exact value
pub sum_step : (limit : ℕ) (x y s : Fraction) → IsLowest x → IsLowest y → add_of limit x y ≡ Ok s → IsLowest s × (value s ≡ value x +Q value y)
unfolding add_of
sum_step limit x y s p q h =
    let e : sum_value x y ≡ s = (answer_is (sum_fits limit x y) (sum_value x y) s _ h).value in
    let low = sum_is_lowest x y p q in
    subst (λ (f : Fraction). IsLowest f × (value f ≡ value x +Q value y)) e
    (low, same_value _ _ low.positive (mul-pos p.positive q.positive) (sum_is x y) ∙ value_sum x y p.positive q.positive)

pub difference_step : (limit : ℕ) (x y s : Fraction) → IsLowest x → IsLowest y → sub_of limit x y ≡ Ok s → IsLowest s × (value s ≡ value x +Q neg_Q (value y))
difference_step limit x y s p q h =
    let r = sum_step limit x (negated y) s p (negated_is_lowest y q) h in
    (r.0, r.1 ∙ ap (λ w. value x +Q w) (value_negated y q.positive))

pub product_step : (limit : ℕ) (x y s : Fraction) → IsLowest x → IsLowest y → mul_of limit x y ≡ Ok s → IsLowest s × (value s ≡ value x *Q value y)
unfolding mul_of
product_step limit x y s p q h =
    let e : product_value x y ≡ s = (answer_is (product_fits limit x y) (product_value x y) s _ h).value in
    let low = product_is_lowest x y p q in
    subst (λ (f : Fraction). IsLowest f × (value f ≡ value x *Q value y)) e
    (low, same_value _ _ low.positive (mul-pos p.positive q.positive) (product_is x y) ∙ value_product x y p.positive q.positive)

pub quotient_step : (limit : ℕ) (x y s : Fraction) → IsLowest x → IsLowest y → y.numerator ≢ pos 0 → div_of limit x y ≡ Ok s → IsLowest s × (value s ≡ value x *Q inv_Q (value y))
unfolding div_of inv_Q
quotient_step limit x y s p q ne h =
    let e : product_value x (inverse y) ≡ s = (answer_is (product_fits limit x (inverse y)) (product_value x (inverse y)) s _ h).value in
    let inv = inverse_is_lowest y q ne in
    let low = product_is_lowest x (inverse y) p inv in
    subst (λ (f : Fraction). IsLowest f × (value f ≡ value x *Q value (inverse (value y).fraction))) e
    (low, same_value _ _ low.positive (mul-pos p.positive inv.positive) (product_is x (inverse y)) ∙ value_product x (inverse y) p.positive inv.positive ∙ ap (λ (f : Fraction). value x *Q value (inverse f)) (sym (value_of_lowest y q)))

-- ---- the order of fractions
pub at_most_value : (x y : Fraction) → 0 < x.denominator → 0 < y.denominator → AtMost x y → IsAtMost (value x) (value y)
at_most_value x y p q h = at_most_is (value x) (value y) x.numerator y.numerator x.denominator y.denominator (value_is x p) (value_is y q) h

pub value_at_most : (x y : Fraction) → 0 < x.denominator → 0 < y.denominator → IsAtMost (value x) (value y) → AtMost x y
value_at_most x y p q h = at_most_out (value x) (value y) x.numerator y.numerator x.denominator y.denominator (value_is x p) (value_is y q) h

pub not_below_value : (x : Fraction) → 0 < x.denominator → pos 0 ≤ℤ x.numerator → IsNotBelow0 (value x)
not_below_value x p h = not_below_is (value x) x.numerator x.denominator (value_is x p) h

pub value_not_below : (x : Fraction) → 0 < x.denominator → IsNotBelow0 (value x) → pos 0 ≤ℤ x.numerator
value_not_below x p h = not_below_out (value x) x.numerator x.denominator (value_is x p) h

-- two numbers of which each is at most the other
both_ways : (a c : ℤ) (b d : ℕ) → (a *ℤ pos d) ≤ℤ (c *ℤ pos b) → (c *ℤ pos b) ≤ℤ (a *ℤ pos d) → a *ℤ pos d ≡ c *ℤ pos b
both_ways a c b d h k = omega (arith, ints, h, k)

pub at_most_antisymm : (x y : Q) → IsAtMost x y → IsAtMost y x → x ≡ y
at_most_antisymm x y h k =
    let a : ℤ = x.fraction.numerator in
    let b : ℕ = x.fraction.denominator in
    let c : ℤ = y.fraction.numerator in
    let d : ℕ = y.fraction.denominator in
    same_of x y a c b d (itself_is x) (itself_is y) (both_ways a c b d (at_most_out x y a c b d (itself_is x) (itself_is y) h) (at_most_out y x c a d b (itself_is y) (itself_is x) k))

-- ---- sums of products of lists
pub dot_positive : (xs ys : List Fraction) → ((j : ℕ) → 0 < (get_or xs j (whole (pos 0))).denominator) → ((j : ℕ) → 0 < (get_or ys j (whole (pos 0))).denominator) → 0 < (plain_dot xs ys).denominator
dot_positive [] ys h k = lit< tt
dot_positive (x ∷ xs) [] h k = lit< tt
dot_positive (x ∷ xs) (y ∷ ys) h k = mul-pos (mul-pos (h 0) (k 0)) (dot_positive xs ys (λ j. h (suc j)) (λ j. k (suc j)))
