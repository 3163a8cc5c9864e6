-- The order of rationals, and the tests of it.
use Rattle.std.proofs.Common.{◌≡◌, Bool, true, false, ◌⊎◌, inl, inr, arith, ℤ, pos, ◌≤ℤ◌, refl, subst}
use Rattle.std.proofs.lemmas.Bool.{cases_Bool}
use Rattle.std.proofs.lemmas.Int.{ints}
use Rattle.std.specs.Prelude.{int_lt, int_le, if◌then◌else◌}
use Rattle.arithmetic.proofs.Tests.{int_le-yes, int_lt-yes, int_lt-no}
use Rattle.exact_num.specs.Rationals.{Q, ◌+Q◌, ◌*Q◌, neg_Q, 0Q, IsNotBelow0, IsAtMost}
use Rattle.exact_num.proofs.Rationals.{rationals, add_not_below, mul_not_below, neg_not_below, at_most_refl}
use Rattle.cell_cover.specs.Closed.{is_above, is_below, is_not_below, is_no_more, greater}

-- ---- the order
pub at_most_add : (x y z w : Q) → IsAtMost x y → IsAtMost z w → IsAtMost (x +Q z) (y +Q w)
at_most_add x y z w h k =
    let e : (y +Q neg_Q x) +Q (w +Q neg_Q z) ≡ (y +Q w) +Q neg_Q (x +Q z) = simp rationals in
    subst IsNotBelow0 e (add_not_below _ _ h k)

pub at_most_mul : (c x y : Q) → IsNotBelow0 c → IsAtMost x y → IsAtMost (c *Q x) (c *Q y)
at_most_mul c x y h k =
    let e : c *Q (y +Q neg_Q x) ≡ (c *Q y) +Q neg_Q (c *Q x) = simp rationals in
    subst IsNotBelow0 e (mul_not_below _ _ h k)

pub not_below_is_at_least : (x : Q) → IsNotBelow0 x → IsAtMost 0Q x
not_below_is_at_least x h = let e : x ≡ x +Q neg_Q 0Q = simp rationals in subst IsNotBelow0 e h

pub at_least_is_not_below : (x : Q) → IsAtMost 0Q x → IsNotBelow0 x
at_least_is_not_below x h = let e : x +Q neg_Q 0Q ≡ x = simp rationals in subst IsNotBelow0 e h

-- a number that is not below 0 is at least another's negative
pub not_above_is_at_most : (x : Q) → IsNotBelow0 (neg_Q x) → IsAtMost x 0Q
not_above_is_at_most x h = let e : neg_Q x ≡ 0Q +Q neg_Q x = simp rationals in subst IsNotBelow0 e h

pub at_most_is_not_above : (x : Q) → IsAtMost x 0Q → IsNotBelow0 (neg_Q x)
at_most_is_not_above x h = let e : 0Q +Q neg_Q x ≡ neg_Q x = simp rationals in subst IsNotBelow0 e h

-- ---- the tests
pub not_below_from : (x : Q) → is_not_below x ≡ true → IsNotBelow0 x
not_below_from x h = int_le-yes (pos 0) x.fraction.numerator h

pub no_more_from : (x y : Q) → is_no_more x y ≡ true → IsAtMost x y
no_more_from x y h = not_below_from (y +Q neg_Q x) h

below_is : (n : ℤ) → int_le (pos 0) n ≡ false → n ≤ℤ pos 0
below_is n h = grind (arith, ints)

pub more_from : (x y : Q) → is_no_more x y ≡ false → IsAtMost y x
more_from x y h =
    let e : neg_Q (y +Q neg_Q x) ≡ x +Q neg_Q y = simp rationals in
    subst IsNotBelow0 e (neg_not_below (y +Q neg_Q x) (below_is (y +Q neg_Q x).fraction.numerator h))

pub above_from : (x : Q) → is_above x ≡ true → IsNotBelow0 x
above_from x h = let lt = int_lt-yes (pos 0) x.fraction.numerator h in omega (arith, ints)

pub not_above_from : (x : Q) → is_above x ≡ false → IsNotBelow0 (neg_Q x)
not_above_from x h = neg_not_below x (int_lt-no (pos 0) x.fraction.numerator h)

pub below_from : (x : Q) → is_below x ≡ true → IsNotBelow0 (neg_Q x)
below_from x h = let lt = int_lt-yes x.fraction.numerator (pos 0) h in neg_not_below x (omega (arith, ints))

pub below_not_above : (x : Q) → is_below x ≡ true → is_above x ≡ false
below_not_above x h = not_both x.fraction.numerator h
  where
    not_both : (n : ℤ) → int_lt n (pos 0) ≡ true → int_lt (pos 0) n ≡ false
    not_both n h = grind (arith, ints)

pub sign_cases : (x : Q) → IsNotBelow0 x ⊎ IsNotBelow0 (neg_Q x)
sign_cases x = elim (cases_Bool (is_not_below x)) [
  | inl t ↦ inl (not_below_from x t)
  | inr f ↦ inr (neg_not_below x (below_is x.fraction.numerator f))
]

-- ---- the greater of two
pub greater_left : (x y : Q) → IsAtMost x (greater x y)
greater_left x y = by_test (is_no_more x y) refl
  where
    by_test : (b : Bool) → is_no_more x y ≡ b → IsAtMost x (if b then y else x)
    by_test true e = no_more_from x y e
    by_test false e = at_most_refl x

pub greater_right : (x y : Q) → IsAtMost y (greater x y)
greater_right x y = by_test (is_no_more x y) refl
  where
    by_test : (b : Bool) → is_no_more x y ≡ b → IsAtMost y (if b then y else x)
    by_test true e = at_most_refl y
    by_test false e = more_from x y e

pub greater_least : (x y z : Q) → IsAtMost x z → IsAtMost y z → IsAtMost (greater x y) z
greater_least x y z h k = by_test (is_no_more x y)
  where
    by_test : (b : Bool) → IsAtMost (if b then y else x) z
    by_test true = k
    by_test false = h
