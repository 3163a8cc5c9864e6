-- The greatest of some fractions.
use Rattle.std.proofs.Common.{◌≡◌, Bool, true, false, List, [], ◌∷◌, arith, pos, ◌*ℤ◌, refl}
use Rattle.std.specs.Prelude.{if◌then◌else◌}
use Rattle.std.proofs.lemmas.Int.{ints}
use Rattle.arithmetic.proofs.Integers.{*ℤ_mono, *ℤ_cancel_le}
use Rattle.arithmetic.proofs.Products.{products}
use Rattle.arithmetic.proofs.Tests.{int_le-no, int_le-yes}
use Rattle.exact_num.specs.Fraction.{Fraction, AtMost, IsDefined}
use Rattle.exact_num.specs.Tests.{greater_of, is_at_most}
use Rattle.account_need.specs.Line.{greatest}
use Rattle.market_laws.proofs.Line.{Each}

pub at_most_then : (x y z : Fraction) → IsDefined y → AtMost x y → AtMost y z → AtMost x z
at_most_then x y z some first second =
    let left = *ℤ_mono z.denominator (x.numerator *ℤ pos y.denominator) (y.numerator *ℤ pos x.denominator) first in
    let right = *ℤ_mono x.denominator (y.numerator *ℤ pos z.denominator) (z.numerator *ℤ pos y.denominator) second in
    *ℤ_cancel_le y.denominator (x.numerator *ℤ pos z.denominator) (z.numerator *ℤ pos x.denominator) some (omega (arith, ints, products, left, right))

pub above_both : (x y : Fraction) → AtMost x (greater_of x y) × AtMost y (greater_of x y)
above_both x y = by (is_at_most x y) refl
  where
    by : (b : Bool) → is_at_most x y ≡ b → AtMost x (if b then y else x) × AtMost y (if b then y else x)
    by true e = (int_le-yes (x.numerator *ℤ pos y.denominator) (y.numerator *ℤ pos x.denominator) e, omega (arith, ints))
    by false e = (omega (arith, ints), int_le-no (x.numerator *ℤ pos y.denominator) (y.numerator *ℤ pos x.denominator) e)

larger_has : (P : Fraction → Type 0) (x y : Fraction) → P x → P y → P (greater_of x y)
larger_has P x y px py = by (is_at_most x y)
  where
    by : (b : Bool) → P (if b then y else x)
    by true = py
    by false = px

pub greatest_has : (P : Fraction → Type 0) (x : Fraction) (ys : List Fraction) → P x → Each P ys → P (greatest x ys)
greatest_has P x [] px h = px
greatest_has P x (y ∷ ys) px h = larger_has P x (greatest y ys) px (greatest_has P y ys h.0 h.1)

-- none is above it
pub none_above : (x : Fraction) (ys : List Fraction) → IsDefined x → Each IsDefined ys → AtMost x (greatest x ys) × Each (λ y. AtMost y (greatest x ys)) ys
none_above x [] dx h = (omega (arith, ints), tt)
none_above x (y ∷ ys) dx h =
    let rest = none_above y ys h.0 h.1 in
    let g = greatest y ys in
    let both = above_both x g in
    let defined = greatest_has IsDefined y ys h.0 h.1 in
    let up : (w : Fraction) → AtMost w g → AtMost w (greater_of x g) = λ w le. at_most_then w g (greater_of x g) defined le both.1 in
    (both.0, (up y rest.0, lift (λ w. AtMost w g) (λ w. AtMost w (greater_of x g)) up ys rest.1))
  where
    lift : (P Q : Fraction → Type 0) → ((w : Fraction) → P w → Q w) → (ws : List Fraction) → Each P ws → Each Q ws
    lift P Q f [] h = tt
    lift P Q f (w ∷ ws) h = (f w h.0, lift P Q f ws h.1)
