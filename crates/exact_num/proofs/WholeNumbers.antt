-- Whole numbers as steps with a limit: taken in, added and multiplied.
use Rattle.std.proofs.Common.{◌≡◌, ℕ, ◌≤◌, ℤ, ◌+ℤ◌, ◌*ℤ◌, unsigned_abs, if◌then◌else◌, Result, Ok, Err, arith, refl, sym, ap, ◌∙◌}
use Rattle.std.specs.Prelude.{IsOk}
use Rattle.std.proofs.lemmas.Int.{ints}
use Rattle.std.proofs.Math.Bool.{and-true}
use Rattle.arithmetic.proofs.Products.{products}
use Rattle.arithmetic.proofs.GcdLaws.{gcd-one}
use Rattle.exact_num.specs.declared.misfit.Operator.TheVariants.{Add, Mul}
use Rattle.exact_num.specs.declared.misfit.Wide.{Wide}
use Rattle.exact_num.specs.Fraction.{Fraction, whole}
use Rattle.exact_num.specs.Fits.{size_fits, misfit, sum_divisor, sum_left, sum_right, sum_total, sum_common, sum_below, sum_value, sum_fits, add_of, product_above, product_below, product_value, product_fits, mul_of, whole_of, meaning}
use Rattle.exact_num.proofs.Values.{whole_is_lowest}
use Rattle.exact_num.proofs.Order.{lowest_is_unique}
use Rattle.exact_num.proofs.Exactness.{sums_are_exact, products_are_exact}
use Rattle.std.proofs.lemmas.Bool.{le-leb}
use Rattle.arithmetic.proofs.Quotients.{int_div-one}

above_is : (a b : ℤ) → product_above (whole a) (whole b) ≡ a *ℤ b
unfolding product_above
above_is a b = rw (gcd-one (unsigned_abs a), gcd-one (unsigned_abs b), int_div-one a, int_div-one b) refl

below_is : (a b : ℤ) → product_below (whole a) (whole b) ≡ 1
unfolding product_below
below_is a b = rw (gcd-one (unsigned_abs a), gcd-one (unsigned_abs b)) refl

pub product_fits-wholes : (limit : ℕ) (a b : ℤ) → 1 ≤ limit → product_fits limit (whole a) (whole b) ≡ size_fits limit (a *ℤ b)
unfolding product_fits
product_fits-wholes limit a b one = rw (above_is a b, below_is a b, le-leb 1 limit one, and-true (size_fits limit (a *ℤ b))) refl

pub product_value-wholes : (a b : ℤ) → product_value (whole a) (whole b) ≡ whole (a *ℤ b)
unfolding product_value
product_value-wholes a b = rw (above_is a b, below_is a b) refl

pub mul-wholes : (limit : ℕ) (a b : ℤ) → 1 ≤ limit
    → mul_of limit (whole a) (whole b) ≡ (if size_fits limit (a *ℤ b) then Ok (whole (a *ℤ b)) else Err (misfit Mul (whole a) (whole b)))
unfolding mul_of
mul-wholes limit a b one = rw (product_fits-wholes limit a b one, product_value-wholes a b) refl

sum_left_is : (a b : ℤ) → sum_left (whole a) (whole b) ≡ a
unfolding sum_left sum_divisor
sum_left_is a b = rw (gcd-one 1) (omega (arith, ints))

sum_right_is : (a b : ℤ) → sum_right (whole a) (whole b) ≡ b
unfolding sum_right sum_divisor
sum_right_is a b = rw (gcd-one 1) (omega (arith, ints))

sum_total_is : (a b : ℤ) → sum_total (whole a) (whole b) ≡ a +ℤ b
unfolding sum_total
sum_total_is a b = rw (sum_left_is a b, sum_right_is a b) refl

sum_common_is : (a b : ℤ) → sum_common (whole a) (whole b) ≡ 1
unfolding sum_common sum_divisor
sum_common_is a b = rw (gcd-one 1) (gcd-one (unsigned_abs (sum_total (whole a) (whole b))))

sum_below_is : (a b : ℤ) → sum_below (whole a) (whole b) ≡ 1
unfolding sum_below sum_divisor
sum_below_is a b = rw (gcd-one 1, sum_common_is a b) refl

pub sum_fits-wholes : (limit : ℕ) (a b : ℤ) → 1 ≤ limit → unsigned_abs a ≤ limit → unsigned_abs b ≤ limit → sum_fits limit (whole a) (whole b) ≡ size_fits limit (a +ℤ b)
unfolding sum_fits
sum_fits-wholes limit a b one left right =
    rw (
      sum_left_is a b,
      sum_right_is a b,
      sum_total_is a b,
      sum_below_is a b,
      le-leb (unsigned_abs a) limit left,
      le-leb (unsigned_abs b) limit right,
      le-leb 1 limit one,
      and-true (size_fits limit (a +ℤ b)),
    ) refl

pub sum_value-wholes : (a b : ℤ) → sum_value (whole a) (whole b) ≡ whole (a +ℤ b)
unfolding sum_value
sum_value-wholes a b = rw (sum_total_is a b, sum_common_is a b, sum_below_is a b, int_div-one (a +ℤ b)) refl

pub add-wholes : (limit : ℕ) (a b : ℤ) → 1 ≤ limit → unsigned_abs a ≤ limit → unsigned_abs b ≤ limit
    → add_of limit (whole a) (whole b) ≡ (if size_fits limit (a +ℤ b) then Ok (whole (a +ℤ b)) else Err (misfit Add (whole a) (whole b)))
unfolding add_of
add-wholes limit a b one left right = rw (sum_fits-wholes limit a b one left right, sum_value-wholes a b) refl

-- a whole number within the limit is taken in
pub whole_fits : (limit : ℕ) (v : ℤ) → unsigned_abs v ≤ limit → whole_of limit v ≡ Ok (whole v)
unfolding whole_of
whole_fits limit v fits = rw (le-leb (unsigned_abs v) limit fits) refl

pub mul_whole_is : (limit : ℕ) (a b : ℤ) (p : Fraction) → mul_of limit (whole a) (whole b) ≡ Ok p → p ≡ whole (a *ℤ b)
mul_whole_is limit a b p h =
    let exact = products_are_exact limit (whole a) (whole b) p (whole_is_lowest a) (whole_is_lowest b) h in
    lowest_is_unique p (whole (a *ℤ b)) exact.lowest (whole_is_lowest (a *ℤ b)) (omega (arith, ints, exact.same))

pub add_whole_is : (limit : ℕ) (a b : ℤ) (s : Fraction) → add_of limit (whole a) (whole b) ≡ Ok s → s ≡ whole (a +ℤ b)
add_whole_is limit a b s h =
    let exact = sums_are_exact limit (whole a) (whole b) s (whole_is_lowest a) (whole_is_lowest b) h in
    lowest_is_unique s (whole (a +ℤ b)) exact.lowest (whole_is_lowest (a +ℤ b)) (omega (arith, ints, products, exact.same))

-- what a call answers for a number within the limit, f being what its value means
pub whole_taken : {T : Type 0} (f : T → Fraction) (r : Result T Wide) (t : T) (limit : ℕ) (v : ℤ) → unsigned_abs v ≤ limit
    → meaning f r ≡ whole_of limit v → r ≡ Ok t → f t ≡ whole v
whole_taken f r t limit v le m is =
    let e : meaning f (Ok t) ≡ Ok (whole v) = sym (ap (meaning f) is) ∙ m ∙ whole_fits limit v le in
    cc

pub whole_never_wide : {T : Type 0} (f : T → Fraction) (r : Result T Wide) (w : Wide) (limit : ℕ) (v : ℤ) → unsigned_abs v ≤ limit
    → meaning f r ≡ whole_of limit v → r ≡ Err w → ⊥
whole_never_wide f r w limit v le m is =
    let e : meaning f (Err w) ≡ Ok (whole v) = sym (ap (meaning f) is) ∙ m ∙ whole_fits limit v le in
    cc

pub whole_is_ok : {T : Type 0} (f : T → Fraction) (limit : ℕ) (v : ℤ) (r : Result T Wide) → unsigned_abs v ≤ limit → meaning f r ≡ whole_of limit v → IsOk r
whole_is_ok f limit v r fits m = by_case r (m ∙ whole_fits limit v fits)
  where
    by_case : (r : Result _ Wide) → meaning f r ≡ Ok (whole v) → IsOk r
    by_case (Ok a) e = refl
    by_case (Err w) e = cc
