-- Operands 0 and 1, equal operands, and operands in the other order.
use Rattle.std.proofs.Common.{◌≡◌, ◌≢◌, ℕ, zero, suc, ◌*◌, ◌/◌, ◌<◌, ◌≤◌, Bool, true, false, ◌&&◌, ℤ, pos, negsuc, neg_ℤ, ◌+ℤ◌, ◌*ℤ◌, ◌≤ℤ◌, unsigned_abs, arith, refl, sym, ◌∙◌, ap, subst}
use Rattle.std.specs.Prelude.{int_div, nat_le, Ok, Err, if◌then◌else◌}
use Rattle.std.proofs.lemmas.Int.{ints}
use Rattle.std.proofs.Math.IntN.{+ℤ_comm, *ℤ_comm}
use Rattle.std.proofs.Math.Bool.{and_comm}
use Rattle.std.proofs.Math.Nat.{zero-mul as nat_zero-mul, zero-div as nat_zero-div, div-one as nat_div-one, mul-one, div_self as nat_div_self, mul_comm, mul-pos}
use Rattle.arithmetic.specs.Gcd.{gcd}
use Rattle.arithmetic.proofs.GcdLaws.{gcd-one, gcd_comm, zero-gcd, gcd_self}
use Rattle.exact_num.specs.Fraction.{Fraction, IsLowest, IsSameValue, over, whole, negated, plain_sum}
use Rattle.exact_num.specs.Fits.{size_fits, sum_divisor, sum_left, sum_right, sum_total, sum_common, sum_below, sum_value, sum_fits, add_of, product_above, product_below, product_value, product_fits, mul_of, sub_of, div_of, inverse, signed_by}
use Rattle.exact_num.specs.declared.misfit.Wide.{Wide}
use Rattle.exact_num.proofs.Values.{sum_is, sum_is_lowest, whole_is_lowest, negated_is_lowest}
use Rattle.exact_num.proofs.ProductValues.{inverse_is_lowest, positive_size, unsigned_abs-signed_by}
use Rattle.arithmetic.proofs.Integers.{unsigned_abs-neg}
use Rattle.exact_num.proofs.Order.{lowest_is_unique, same_value_trans}
use Rattle.std.proofs.lemmas.Bool.{le-leb}
use Rattle.arithmetic.proofs.Quotients.{int_div-one}

zero_divisor : (x : Fraction) → sum_divisor x (whole (pos 0)) ≡ 1
unfolding sum_divisor
zero_divisor x = gcd-one x.denominator

zero_left : (x : Fraction) → sum_left x (whole (pos 0)) ≡ x.numerator
unfolding sum_left
zero_left x = ap (λ (g : ℕ). x.numerator *ℤ pos (1 / g)) (zero_divisor x) ∙ omega (arith, ints)

zero_right : (x : Fraction) → sum_right x (whole (pos 0)) ≡ pos 0
unfolding sum_right
zero_right x = ap pos (nat_zero-mul _)

zero_total : (x : Fraction) → sum_total x (whole (pos 0)) ≡ x.numerator
unfolding sum_total
zero_total x = ap (λ (z : ℤ). z +ℤ sum_right x (whole (pos 0))) (zero_left x) ∙ ap (λ (z : ℤ). x.numerator +ℤ z) (zero_right x) ∙ omega (arith, ints)

zero_common : (x : Fraction) → sum_common x (whole (pos 0)) ≡ 1
unfolding sum_common
zero_common x = ap (λ (g : ℕ). gcd (unsigned_abs (sum_total x (whole (pos 0)))) g) (zero_divisor x) ∙ gcd-one _

zero_below : (x : Fraction) → sum_below x (whole (pos 0)) ≡ x.denominator
unfolding sum_below
zero_below x = ap (λ (g : ℕ). x.denominator / g * (1 / sum_common x (whole (pos 0)))) (zero_divisor x) ∙ ap (λ (g : ℕ). x.denominator / 1 * (1 / g)) (zero_common x) ∙ mul-one _ ∙ nat_div-one _

-- a sum with 0 always fits
pub add-zero : (limit : ℕ) (x : Fraction) → unsigned_abs x.numerator ≤ limit → x.denominator ≤ limit → add_of limit x (whole (pos 0)) ≡ Ok x
unfolding add_of sum_fits sum_value
add-zero limit x p q =
    let o = whole (pos 0) in
    let g = zero_divisor x in
    let l = zero_left x in
    let r = zero_right x in
    let t = zero_total x in
    let k = zero_common x in
    let b = zero_below x in
    let zero_fits : size_fits limit (pos 0) ≡ true = le-leb 0 limit (omega arith) in
    let above_fits : size_fits limit x.numerator ≡ true = le-leb _ limit p in
    let below_fits : nat_le x.denominator limit ≡ true = le-leb _ limit q in
    rw (l, r, t, k, b, above_fits, zero_fits, below_fits, int_div-one) refl

times_zero_above : (x : Fraction) → product_above x (whole (pos 0)) ≡ pos 0
unfolding product_above
times_zero_above x = ap (λ (n : ℕ). int_div x.numerator (pos (gcd (unsigned_abs x.numerator) 1)) *ℤ pos n) (nat_zero-div _) ∙ omega (arith, ints)

times_zero_below : (x : Fraction) → IsLowest x → product_below x (whole (pos 0)) ≡ 1
unfolding product_below
times_zero_below x p = ap (λ (g : ℕ). x.denominator / g * (1 / gcd (unsigned_abs x.numerator) 1)) (zero-gcd x.denominator) ∙ ap (λ (g : ℕ). x.denominator / x.denominator * (1 / g)) (gcd-one _) ∙ mul-one _ ∙ nat_div_self p.positive

-- a product with 0 always fits
pub mul-zero : (limit : ℕ) (x : Fraction) → IsLowest x → 1 ≤ limit → mul_of limit x (whole (pos 0)) ≡ Ok (whole (pos 0))
unfolding mul_of product_fits product_value
mul-zero limit x p h =
    let a = times_zero_above x in
    let b = times_zero_below x p in
    let zero_fits : size_fits limit (pos 0) ≡ true = le-leb 0 limit (omega arith) in
    let one_fits : nat_le 1 limit ≡ true = le-leb 1 limit h in
    rw (a, b, zero_fits, one_fits) refl

one_gcd : (n : ℕ) → gcd 1 n ≡ 1
one_gcd n = gcd_comm 1 n ∙ gcd-one n

times_one_above : (x : Fraction) → product_above x (whole (pos 1)) ≡ x.numerator
unfolding product_above
times_one_above x = ap (λ (g : ℕ). int_div x.numerator (pos g) *ℤ pos (1 / gcd 1 x.denominator)) (gcd-one (unsigned_abs x.numerator)) ∙ ap (λ (g : ℕ). int_div x.numerator (pos 1) *ℤ pos (1 / g)) (one_gcd x.denominator) ∙ omega (arith, ints)

times_one_below : (x : Fraction) → product_below x (whole (pos 1)) ≡ x.denominator
unfolding product_below
times_one_below x = ap (λ (g : ℕ). x.denominator / g * (1 / gcd (unsigned_abs x.numerator) 1)) (one_gcd x.denominator) ∙ ap (λ (g : ℕ). x.denominator / 1 * (1 / g)) (gcd-one (unsigned_abs x.numerator)) ∙ mul-one _ ∙ nat_div-one _

-- a product with 1 always fits
pub mul-one_fits : (limit : ℕ) (x : Fraction) → unsigned_abs x.numerator ≤ limit → x.denominator ≤ limit → mul_of limit x (whole (pos 1)) ≡ Ok x
unfolding mul_of product_fits product_value
mul-one_fits limit x p q =
    let a = times_one_above x in
    let b = times_one_below x in
    let above_fits : size_fits limit x.numerator ≡ true = le-leb _ limit p in
    let below_fits : nat_le x.denominator limit ≡ true = le-leb _ limit q in
    rw (a, b, above_fits, below_fits) refl

-- the value of a sum does not depend on the order of its operands
pub sum_value_comm : (x y : Fraction) → IsLowest x → IsLowest y → sum_value x y ≡ sum_value y x
sum_value_comm x y p q =
    let same : plain_sum y x ≡ plain_sum x y =
    λ i. over (+ℤ_comm (y.numerator *ℤ pos x.denominator) (x.numerator *ℤ pos y.denominator) i) (mul_comm y.denominator x.denominator i) in
    lowest_is_unique _ _ (sum_is_lowest x y p q) (sum_is_lowest y x q p)
    (same_value_trans (sum_value x y) (plain_sum x y) (sum_value y x) (mul-pos p.positive q.positive) (sum_is x y) (subst (λ (f : Fraction). IsSameValue (sum_value y x) f) same (sum_is y x)))

-- ---- operands in the other order
sum_below_comm : (x y : Fraction) → IsLowest x → IsLowest y → sum_below x y ≡ sum_below y x
unfolding sum_value
sum_below_comm x y p q = ap (λ (f : Fraction). f.denominator) (sum_value_comm x y p q)

sum_divisor_comm : (x y : Fraction) → sum_divisor x y ≡ sum_divisor y x
unfolding sum_divisor
sum_divisor_comm x y = gcd_comm x.denominator y.denominator

sum_left_comm : (x y : Fraction) → sum_left x y ≡ sum_right y x
unfolding sum_left sum_right
sum_left_comm x y = ap (λ (g : ℕ). x.numerator *ℤ pos (y.denominator / g)) (sum_divisor_comm x y)

sum_total_comm : (x y : Fraction) → sum_total x y ≡ sum_total y x
unfolding sum_total
sum_total_comm x y =
    ap (λ (z : ℤ). z +ℤ sum_right x y) (sum_left_comm x y)
    ∙ ap (λ (z : ℤ). sum_right y x +ℤ z) (sym (sum_left_comm y x))
    ∙ +ℤ_comm (sum_right y x) (sum_left y x)

pub sum_fits_comm : (limit : ℕ) (x y : Fraction) → IsLowest x → IsLowest y → sum_fits limit x y ≡ sum_fits limit y x
unfolding sum_fits
sum_fits_comm limit x y p q =
    let l = sum_left_comm x y in
    let r = sum_left_comm y x in
    rw (l, sym r, sum_total_comm x y, sum_below_comm x y p q) (ap (λ (b : Bool). b && size_fits limit (sum_total y x) && nat_le (sum_below y x) limit) (and_comm (size_fits limit (sum_right y x)) (size_fits limit (sum_left y x))))

ok_swapped : (b c : Bool) (v w s : Fraction) (m n : Wide) → b ≡ c → v ≡ w → (if b then Ok v else Err m) ≡ Ok s → (if c then Ok w else Err n) ≡ Ok s
ok_swapped true true v w s m n e f h = ap Ok (sym f) ∙ h
ok_swapped true false v w s m n e f h = cc
ok_swapped false c v w s m n e f h = cc

-- a sum that fits is also the sum of the operands in the other order
pub add_comm_at_ok : (limit : ℕ) (x y s : Fraction) → IsLowest x → IsLowest y → add_of limit x y ≡ Ok s → add_of limit y x ≡ Ok s
unfolding add_of
add_comm_at_ok limit x y s p q h =
    ok_swapped _ _ (sum_value x y) (sum_value y x) s _ _ (sum_fits_comm limit x y p q) (sum_value_comm x y p q) h

product_above_comm : (x y : Fraction) → product_above x y ≡ product_above y x
unfolding product_above
product_above_comm x y = *ℤ_comm (int_div x.numerator (pos (gcd (unsigned_abs x.numerator) y.denominator))) (int_div y.numerator (pos (gcd (unsigned_abs y.numerator) x.denominator)))

product_below_comm : (x y : Fraction) → product_below x y ≡ product_below y x
unfolding product_below
product_below_comm x y = mul_comm (x.denominator / gcd (unsigned_abs y.numerator) x.denominator) (y.denominator / gcd (unsigned_abs x.numerator) y.denominator)

pub product_value_comm : (x y : Fraction) → product_value x y ≡ product_value y x
unfolding product_value
product_value_comm x y = λ i. over (product_above_comm x y i) (product_below_comm x y i)

pub product_fits_comm : (limit : ℕ) (x y : Fraction) → product_fits limit x y ≡ product_fits limit y x
unfolding product_fits
product_fits_comm limit x y = rw (product_above_comm x y, product_below_comm x y) refl

-- a product that fits is also the product of the operands in the other order
pub mul_comm_at_ok : (limit : ℕ) (x y s : Fraction) → mul_of limit x y ≡ Ok s → mul_of limit y x ≡ Ok s
unfolding mul_of
mul_comm_at_ok limit x y s h = ok_swapped _ _ (product_value x y) (product_value y x) s _ _ (product_fits_comm limit x y) (product_value_comm x y) h

-- ---- 0 and 1 on either side: each always fits
pub zero-add : (limit : ℕ) (x : Fraction) → IsLowest x → unsigned_abs x.numerator ≤ limit → x.denominator ≤ limit → add_of limit (whole (pos 0)) x ≡ Ok x
zero-add limit x low p q = add_comm_at_ok limit x (whole (pos 0)) x low (whole_is_lowest (pos 0)) (add-zero limit x p q)

pub sub-zero : (limit : ℕ) (x : Fraction) → unsigned_abs x.numerator ≤ limit → x.denominator ≤ limit → sub_of limit x (whole (pos 0)) ≡ Ok x
sub-zero limit x p q = add-zero limit x p q

pub zero-sub : (limit : ℕ) (x : Fraction) → IsLowest x → unsigned_abs x.numerator ≤ limit → x.denominator ≤ limit → sub_of limit (whole (pos 0)) x ≡ Ok (negated x)
zero-sub limit x low p q = zero-add limit (negated x) (negated_is_lowest x low) (rw (unsigned_abs-neg x.numerator) p) q

pub zero-mul : (limit : ℕ) (x : Fraction) → IsLowest x → 1 ≤ limit → mul_of limit (whole (pos 0)) x ≡ Ok (whole (pos 0))
zero-mul limit x p h = mul_comm_at_ok limit x (whole (pos 0)) (whole (pos 0)) (mul-zero limit x p h)

pub one-mul : (limit : ℕ) (x : Fraction) → unsigned_abs x.numerator ≤ limit → x.denominator ≤ limit → mul_of limit (whole (pos 1)) x ≡ Ok x
one-mul limit x p q = mul_comm_at_ok limit x (whole (pos 1)) x (mul-one_fits limit x p q)

-- a quotient that is the product with the inverse
quotient_at_ok : (limit : ℕ) (x y s : Fraction) → mul_of limit x (inverse y) ≡ Ok s → div_of limit x y ≡ Ok s
unfolding mul_of div_of
quotient_at_ok limit x y s h = ok_swapped _ _ _ _ s _ _ refl refl h

pub zero-div : (limit : ℕ) (y : Fraction) → IsLowest y → y.numerator ≢ pos 0 → 1 ≤ limit → div_of limit (whole (pos 0)) y ≡ Ok (whole (pos 0))
zero-div limit y low ne h = quotient_at_ok limit (whole (pos 0)) y (whole (pos 0)) (zero-mul limit (inverse y) (inverse_is_lowest y low ne) h)

one_inverse : inverse (whole (pos 1)) ≡ whole (pos 1)
unfolding inverse
one_inverse = refl

pub div-one : (limit : ℕ) (x : Fraction) → unsigned_abs x.numerator ≤ limit → x.denominator ≤ limit → div_of limit x (whole (pos 1)) ≡ Ok x
div-one limit x p q = quotient_at_ok limit x (whole (pos 1)) x (ap (mul_of limit x) one_inverse ∙ mul-one_fits limit x p q)

-- a number in lowest terms with the numerator 0 is 0
pub zero_is : (x : Fraction) → IsLowest x → x.numerator ≡ pos 0 → x ≡ whole (pos 0)
zero_is x low e =
    let below : x.denominator ≡ 1 = sym (zero-gcd x.denominator) ∙ ap (λ (z : ℤ). gcd (unsigned_abs z) x.denominator) (sym e) ∙ low.coprime in
    λ i. over (e i) (below i)

-- a limit of at least 1, as a size
pub limit_at_least_one : (limit : ℤ) → pos 1 ≤ℤ limit → 1 ≤ unsigned_abs limit
limit_at_least_one limit h = omega (arith, ints)

-- ---- equal operands
itself_divisor : (x : Fraction) → sum_divisor x (negated x) ≡ x.denominator
unfolding sum_divisor
itself_divisor x = gcd_self x.denominator

over_itself : (x : Fraction) → IsLowest x → x.denominator / sum_divisor x (negated x) ≡ 1
over_itself x low = ap (λ (g : ℕ). x.denominator / g) (itself_divisor x) ∙ nat_div_self low.positive

itself_left : (x : Fraction) → IsLowest x → sum_left x (negated x) ≡ x.numerator
unfolding sum_left
itself_left x low = ap (λ (n : ℕ). x.numerator *ℤ pos n) (over_itself x low) ∙ omega (arith, ints)

itself_right : (x : Fraction) → IsLowest x → sum_right x (negated x) ≡ neg_ℤ x.numerator
unfolding sum_right
itself_right x low = ap (λ (n : ℕ). neg_ℤ x.numerator *ℤ pos n) (over_itself x low) ∙ omega (arith, ints)

itself_total : (x : Fraction) → IsLowest x → sum_total x (negated x) ≡ pos 0
unfolding sum_total
itself_total x low = rw (itself_left x low, itself_right x low) (omega (arith, ints))

itself_common : (x : Fraction) → IsLowest x → sum_common x (negated x) ≡ x.denominator
unfolding sum_common
itself_common x low = rw (itself_total x low, itself_divisor x) (zero-gcd x.denominator)

itself_below : (x : Fraction) → IsLowest x → sum_below x (negated x) ≡ 1
unfolding sum_below
itself_below x low = rw (over_itself x low, itself_common x low) (ap (λ (n : ℕ). 1 * n) (nat_div_self low.positive))

pub zero_quotient : (n : ℕ) → int_div (pos 0) (pos n) ≡ pos 0
zero_quotient n = ap pos (nat_zero-div n)

pub sub_self : (limit : ℕ) (x : Fraction) → IsLowest x → 1 ≤ limit → unsigned_abs x.numerator ≤ limit → sub_of limit x x ≡ Ok (whole (pos 0))
unfolding add_of sum_fits sum_value
sub_self limit x low one p =
    let l = itself_left x low in
    let r = itself_right x low in
    let t = itself_total x low in
    let k = itself_common x low in
    let b = itself_below x low in
    let above_fits : size_fits limit x.numerator ≡ true = le-leb _ limit p in
    let negated_fits : size_fits limit (neg_ℤ x.numerator) ≡ true = le-leb _ limit (rw (unsigned_abs-neg x.numerator) p) in
    let zero_fits : size_fits limit (pos 0) ≡ true = le-leb 0 limit (omega arith) in
    let below_fits : nat_le 1 limit ≡ true = le-leb 1 limit one in
    rw (l, r, t, k, b, above_fits, negated_fits, zero_fits, below_fits, zero_quotient x.denominator) refl

-- the two factors of a number over itself
signs_cancel : (n : ℤ) (d : ℕ) → n ≢ pos 0 → 0 < d → int_div n (pos (unsigned_abs n)) *ℤ int_div (signed_by n (pos d)) (pos d) ≡ pos 1
signs_cancel (pos zero) d ne h = absurd (ne refl)
signs_cancel (pos (suc n)) d ne h =
    let above : suc n / suc n ≡ 1 = nat_div_self (omega arith) in
    let below : d / d ≡ 1 = nat_div_self h in
    rw (above, below) refl
signs_cancel (negsuc n) d ne h = turned n d h
  where
    turned : (n d : ℕ) → 0 < d → int_div (negsuc n) (pos (suc n)) *ℤ int_div (neg_ℤ (pos d)) (pos d) ≡ pos 1
    turned n zero h = absurd (omega arith)
    turned n (suc d) h =
        let above : suc n / suc n ≡ 1 = nat_div_self (omega arith) in
        let below : suc d / suc d ≡ 1 = nat_div_self (omega arith) in
        rw (above, below) refl

itself_inverse : (x : Fraction) → gcd (unsigned_abs (inverse x).numerator) x.denominator ≡ x.denominator
unfolding inverse
itself_inverse x = ap (λ (n : ℕ). gcd n x.denominator) (unsigned_abs-signed_by x.numerator (pos x.denominator)) ∙ gcd_self x.denominator

itself_above : (x : Fraction) → IsLowest x → x.numerator ≢ pos 0 → product_above x (inverse x) ≡ pos 1
unfolding product_above inverse
itself_above x low ne =
    ap (λ (g : ℕ). int_div x.numerator (pos g) *ℤ int_div (signed_by x.numerator (pos x.denominator)) (pos (gcd (unsigned_abs (signed_by x.numerator (pos x.denominator))) x.denominator))) (gcd_self (unsigned_abs x.numerator))
    ∙ ap (λ (g : ℕ). int_div x.numerator (pos (unsigned_abs x.numerator)) *ℤ int_div (signed_by x.numerator (pos x.denominator)) (pos g)) (itself_inverse x)
    ∙ signs_cancel x.numerator x.denominator ne low.positive

itself_product_below : (x : Fraction) → IsLowest x → x.numerator ≢ pos 0 → product_below x (inverse x) ≡ 1
unfolding product_below inverse
itself_product_below x low ne =
    ap (λ (g : ℕ). x.denominator / g * (unsigned_abs x.numerator / gcd (unsigned_abs x.numerator) (unsigned_abs x.numerator))) (itself_inverse x)
    ∙ ap (λ (g : ℕ). x.denominator / x.denominator * (unsigned_abs x.numerator / g)) (gcd_self (unsigned_abs x.numerator))
    ∙ ap (λ (n : ℕ). n * (unsigned_abs x.numerator / unsigned_abs x.numerator)) (nat_div_self low.positive)
    ∙ ap (λ (n : ℕ). 1 * n) (nat_div_self (positive_size x.numerator ne))

pub div_self : (limit : ℕ) (x : Fraction) → IsLowest x → x.numerator ≢ pos 0 → 1 ≤ limit → div_of limit x x ≡ Ok (whole (pos 1))
unfolding div_of product_fits product_value
div_self limit x low ne one =
    let a = itself_above x low ne in
    let b = itself_product_below x low ne in
    let fits : nat_le 1 limit ≡ true = le-leb 1 limit one in
    rw (a, b, fits) refl
