-- What is divided once, at the end, is what the steps one after another give.
use Rattle.std.proofs.Common.{◌≡◌, ℕ, zero, suc, ◌*◌, ◌<◌, ℤ, pos, ◌+ℤ◌, ◌*ℤ◌, neg_ℤ, unsigned_abs, int_div, ◌/◌, [], ◌∷◌, arith, refl, sym, ◌∙◌, ap}
use Rattle.std.proofs.Math.Nat.{mul-pos}
use Rattle.std.proofs.lemmas.Int.{ints}
use Rattle.arithmetic.specs.Gcd.{gcd}
use Rattle.arithmetic.proofs.Integers.{*ℤ_cancel}
use Rattle.arithmetic.proofs.Products.{products}
use Rattle.arithmetic.proofs.Ring.{ring, V, ◌⊗◌}
use Rattle.exact_num.specs.Fraction.{Fraction, IsLowest, over, whole, negated, reduced}
use Rattle.exact_num.specs.Fits.{sum_value, product_value}
use Rattle.exact_num.specs.Rationals.{Q, quotient_of}
use Rattle.exact_num.proofs.Rationals.{same_of, quotient_is, itself_is}
use Rattle.exact_num.proofs.Values.{whole_is_lowest, negated_is_lowest, sum_is, sum_is_lowest}
use Rattle.exact_num.proofs.ProductValues.{product_is, product_is_lowest}

-- n / d in lowest terms is the fraction in lowest terms of that value
pub reduced_is : (n : ℤ) (d : ℕ) (x : Fraction) → 0 < d → IsLowest x → n *ℤ pos x.denominator ≡ x.numerator *ℤ pos d → reduced n d ≡ x
unfolding quotient_of
reduced_is n zero x p low e = absurd (omega arith)
reduced_is n (suc d) x p low e =
    let y : Q = record { fraction = x; lowest = low } in
    ap (λ (q : Q). q.fraction) (same_of (quotient_of n (suc d)) y n x.numerator (suc d) x.denominator (quotient_is n (suc d) p) (itself_is y) e)

pub reduced_zero : (d : ℕ) → 0 < d → whole (pos 0) ≡ reduced (pos 0) d
reduced_zero d p =
    let none : 0 ≡ 0 * d = omega arith in
    sym (reduced_is (pos 0) d (whole (pos 0)) p (whole_is_lowest (pos 0)) (ap (λ (k : ℕ). pos k) none))

-- by what both parts share
pub reduced_by : (n : ℤ) (d shared : ℕ) (a : ℤ) (b : ℕ) → shared ≡ gcd (unsigned_abs n) d → a ≡ int_div n (pos shared) → b ≡ d / shared → over a b ≡ reduced n d
unfolding reduced
reduced_by n d shared a b es ea eb = rw (ea, eb, es) refl

pub product_reduced : (x y : Fraction) → IsLowest x → IsLowest y → reduced (x.numerator *ℤ y.numerator) (x.denominator * y.denominator) ≡ product_value x y
product_reduced x y p q =
    reduced_is (x.numerator *ℤ y.numerator) (x.denominator * y.denominator) (product_value x y) (mul-pos p.positive q.positive) (product_is_lowest x y p q) (sym (product_is x y))

-- ---- a number less a product
-- t / (d * b) is x / d less a / b, and so is s / e, where u / v is a / b
less_cross : (x a u s t : ℤ) (d b v e : ℕ) → 0 < v → t +ℤ a *ℤ pos d ≡ x *ℤ pos b → u *ℤ pos b ≡ a *ℤ pos v → s *ℤ pos (d * v) ≡ (x *ℤ pos v +ℤ neg_ℤ u *ℤ pos d) *ℤ pos e
    → t *ℤ pos e ≡ s *ℤ pos (d * b)
less_cross x a u s t d b v e one total same sum =
    let first : t *ℤ pos v ≡ (x *ℤ pos v +ℤ neg_ℤ u *ℤ pos d) *ℤ pos b =
    omega (arith, ints, products, ap (λ (z : ℤ). z *ℤ pos v) total, ap (λ (z : ℤ). z *ℤ pos d) same) in
    *ℤ_cancel v _ _ one
    (ring (t ∷ pos e ∷ pos v ∷ []) ((V 0 ⊗ V 1) ⊗ V 2) ((V 0 ⊗ V 2) ⊗ V 1) refl
    ∙ ap (λ (z : ℤ). z *ℤ pos e) first
    ∙ ring ((x *ℤ pos v +ℤ neg_ℤ u *ℤ pos d) ∷ pos b ∷ pos e ∷ []) ((V 0 ⊗ V 1) ⊗ V 2) ((V 0 ⊗ V 2) ⊗ V 1) refl
    ∙ ap (λ (z : ℤ). z *ℤ pos b) (sym sum)
    ∙ ring (s ∷ pos d ∷ pos v ∷ pos b ∷ []) ((V 0 ⊗ (V 1 ⊗ V 2)) ⊗ V 3) ((V 0 ⊗ (V 1 ⊗ V 3)) ⊗ V 2) refl)

pub less_reduced : (x y z : Fraction) (t : ℤ) → IsLowest x → IsLowest y → IsLowest z → t +ℤ (y.numerator *ℤ z.numerator) *ℤ pos x.denominator ≡ x.numerator *ℤ pos (y.denominator * z.denominator)
    → reduced t (x.denominator * (y.denominator * z.denominator)) ≡ sum_value x (negated (product_value y z))
less_reduced x y z t p q r total =
    let u = product_value y z in
    let low = product_is_lowest y z q r in
    let s = sum_value x (negated u) in
    reduced_is t (x.denominator * (y.denominator * z.denominator)) s (mul-pos p.positive (mul-pos q.positive r.positive)) (sum_is_lowest x (negated u) p (negated_is_lowest u low))
    (less_cross x.numerator (y.numerator *ℤ z.numerator) u.numerator s.numerator t x.denominator (y.denominator * z.denominator) u.denominator s.denominator low.positive total (product_is y z) (sum_is x (negated u)))
