-- What a checked operation of 128 bits gives, as a step with a limit.
use Rattle.std.proofs.Common.{◌≡◌, ℕ, suc, ◌-◌, ◌^◌, ◌≤◌, Bool, true, false, Option, Some, None, option_and_then, FitsSigned, w16, w32, w64, negsuc, ℤ, pos, ◌+ℤ◌, ◌*ℤ◌, unsigned_abs, to_z, of_z, if◌then◌else◌, Ok, Err, arith, refl, sym, subst, ◌∙◌}
use Rattle.std.proofs.Math.Nat.{mul-le-mul}
use Rattle.std.proofs.lemmas.Bool.{false_from_ne_true, le-leb, leb-true}
use Rattle.std.proofs.lemmas.Int.{fits_signed_from_abs, ints, to_z-of_z, unsigned_abs-mul}
use Rattle.std.specs.Option.{SomeIff, ok_or}
use mir.Syntax.{w128}
use Rattle.exact_num.specs.declared.misfit.Wide.{Wide}
use Rattle.exact_num.specs.Fraction.{whole}
use Rattle.exact_num.specs.Fits.{size_fits, meaning, add_of, mul_of}
use Rattle.exact_num.specs.Steps.{plus_product}
use Rattle.exact_num.proofs.WholeNumbers.{add-wholes, mul-wholes}

-- the number that is asked for, where it fits
abbrev pub fitted : ℕ → Option ℤ → Option ℤ
fitted limit number = option_and_then (λ n. if size_fits limit n then Some n else None) number

-- what a checked operation of 128 bits gives, where it fits, or else the misfit
pub checked_step : (r : Option ℤ) (z : ℤ) (w : Wide) → SomeIff r (FitsSigned w128 z) z
    → meaning whole (ok_or (fitted (2 ^ 127 - 1) r) w) ≡ (if size_fits (2 ^ 127 - 1) z then Ok (whole z) else Err w)
checked_step (Some x) z w h = rw (h.1) (by_test (size_fits (2 ^ 127 - 1) z))
  where
    by_test : (t : Bool) → meaning whole (ok_or (if t then Some z else None) w) ≡ (if t then Ok (whole z) else Err w)
    by_test true = refl
    by_test false = refl
checked_step None z w h = rw (too_large z h) refl
  where
    too_large : (z : ℤ) → (FitsSigned w128 z → ⊥) → size_fits (2 ^ 127 - 1) z ≡ false
    too_large (pos n) h = false_from_ne_true _ (λ t. h (record { sfits = omega (arith, leb-true n (2 ^ 127 - 1) t) }))
    too_large (negsuc n) h = false_from_ne_true _ (λ t. h (record { sfits = omega (arith, leb-true (suc n) (2 ^ 127 - 1) t) }))

-- ---- steps that fit
product_is : (a b : ℤ) → unsigned_abs (a *ℤ b) ≤ 2 ^ 126 → mul_of (2 ^ 127 - 1) (whole a) (whole b) ≡ Ok (whole (a *ℤ b))
product_is a b small =
    let fits : size_fits (2 ^ 127 - 1) (a *ℤ b) ≡ true = le-leb _ (2 ^ 127 - 1) (omega (arith, small)) in
    mul-wholes (2 ^ 127 - 1) a b (omega arith) ∙ rw fits refl

sum_is : (t p : ℤ) → unsigned_abs t ≤ 2 ^ 126 → unsigned_abs p ≤ 2 ^ 113 → add_of (2 ^ 127 - 1) (whole t) (whole p) ≡ Ok (whole (t +ℤ p))
sum_is t p small shorter =
    let fits : size_fits (2 ^ 127 - 1) (t +ℤ p) ≡ true = le-leb _ (2 ^ 127 - 1) (omega (arith, ints, small, shorter)) in
    add-wholes (2 ^ 127 - 1) t p (omega arith) (omega (arith, small)) (omega (arith, shorter)) ∙ rw fits refl

-- ---- numbers of 64 bits, and of 32
size_64 : (a : ℤ) → FitsSigned w64 a → unsigned_abs a ≤ 2 ^ 63
size_64 (pos n) p = omega (arith, p.sfits)
size_64 (negsuc n) p = omega (arith, p.sfits)

size_32 : (a : ℤ) → FitsSigned w32 a → unsigned_abs a ≤ 2 ^ 31
size_32 (pos n) p = omega (arith, p.sfits)
size_32 (negsuc n) p = omega (arith, p.sfits)

size_16 : (a : ℤ) → FitsSigned w16 a → unsigned_abs a ≤ 2 ^ 15
size_16 (pos n) p = omega (arith, p.sfits)
size_16 (negsuc n) p = omega (arith, p.sfits)

pub short_product : (a b : ℤ) → FitsSigned w64 a → FitsSigned w64 b → unsigned_abs (a *ℤ b) ≤ 2 ^ 126
short_product a b p q = subst (λ w. w ≤ 2 ^ 126) (sym (unsigned_abs-mul a b)) (mul-le-mul (size_64 a p) (size_64 b q))

pub shorter_product : (a x : ℤ) → FitsSigned w64 a → FitsSigned w32 x → unsigned_abs (a *ℤ x) ≤ 2 ^ 94
shorter_product a x p q = subst (λ w. w ≤ 2 ^ 94) (sym (unsigned_abs-mul a x)) (mul-le-mul (size_64 a p) (size_32 x q))

pub short_product_is : (a b : ℤ) → FitsSigned w64 a → FitsSigned w64 b → mul_of (2 ^ 127 - 1) (whole a) (whole b) ≡ Ok (whole (a *ℤ b))
short_product_is a b p q = product_is a b (short_product a b p q)

add_small_is : (t a x : ℤ) → unsigned_abs t ≤ 2 ^ 126 → unsigned_abs (a *ℤ x) ≤ 2 ^ 113 → plus_product (2 ^ 127 - 1) (whole t) (whole a) (whole x) ≡ Ok (whole (t +ℤ (a *ℤ x)))
add_small_is t a x small product = rw (product_is a x (omega (arith, product))) (sum_is t (a *ℤ x) small product)

pub add_shorter_is : (t a x : ℤ) → unsigned_abs t ≤ 2 ^ 126 → FitsSigned w64 a → FitsSigned w32 x → plus_product (2 ^ 127 - 1) (whole t) (whole a) (whole x) ≡ Ok (whole (t +ℤ (a *ℤ x)))
add_shorter_is t a x small p q = let product = shorter_product a x p q in add_small_is t a x small (omega (arith, product))

-- a count of 16 bits and a payoff at entries of 32
pub counted_product : (a x : ℤ) → FitsSigned w16 a → unsigned_abs x ≤ 2 ^ 98 → unsigned_abs (a *ℤ x) ≤ 2 ^ 113
counted_product a x p q = subst (λ w. w ≤ 2 ^ 113) (sym (unsigned_abs-mul a x)) (mul-le-mul (size_16 a p) q)

pub add_counted_is : (t a x : ℤ) → unsigned_abs t ≤ 2 ^ 126 → FitsSigned w16 a → unsigned_abs x ≤ 2 ^ 98 → plus_product (2 ^ 127 - 1) (whole t) (whole a) (whole x) ≡ Ok (whole (t +ℤ (a *ℤ x)))
add_counted_is t a x small p q = add_small_is t a x small (counted_product a x p q)

-- ---- what is read of them in 128 bits
factors_read : (x y a b : ℤ) → unsigned_abs a ≤ 2 ^ 63 → unsigned_abs b ≤ 2 ^ 98 → x ≡ a → y ≡ b → to_z w128 (of_z w128 x) *ℤ to_z w128 (of_z w128 y) ≡ a *ℤ b
factors_read x y a b p q x_is y_is =
    let left : FitsSigned w128 a = fits_signed_from_abs w128 a (omega (arith, p)) in
    let right : FitsSigned w128 b = fits_signed_from_abs w128 b (omega (arith, q)) in
    rw (x_is, y_is, to_z-of_z w128 a left, to_z-of_z w128 b right) refl

product_fits : (x y a b : ℤ) → unsigned_abs a ≤ 2 ^ 63 → unsigned_abs b ≤ 2 ^ 98 → unsigned_abs (a *ℤ b) ≤ 2 ^ 126 → x ≡ a → y ≡ b
    → FitsSigned w128 (to_z w128 (of_z w128 x) *ℤ to_z w128 (of_z w128 y))
product_fits x y a b p q product x_is y_is = rw (factors_read x y a b p q x_is y_is) (fits_signed_from_abs w128 (a *ℤ b) (omega (arith, product)))

product_read : (x y a b : ℤ) → unsigned_abs a ≤ 2 ^ 63 → unsigned_abs b ≤ 2 ^ 98 → unsigned_abs (a *ℤ b) ≤ 2 ^ 126 → x ≡ a → y ≡ b
    → to_z w128 (of_z w128 (to_z w128 (of_z w128 x) *ℤ to_z w128 (of_z w128 y))) ≡ a *ℤ b
product_read x y a b p q product x_is y_is =
    let all : FitsSigned w128 (a *ℤ b) = fits_signed_from_abs w128 (a *ℤ b) (omega (arith, product)) in
    rw (factors_read x y a b p q x_is y_is) (to_z-of_z w128 (a *ℤ b) all)

pub short_product_read : (x y a b : ℤ) → FitsSigned w64 a → FitsSigned w64 b → x ≡ to_z w64 (of_z w64 a) → y ≡ to_z w64 (of_z w64 b)
    → to_z w128 (of_z w128 (to_z w128 (of_z w128 x) *ℤ to_z w128 (of_z w128 y))) ≡ a *ℤ b
short_product_read x y a b p q x_is y_is = let shorter = size_64 b q in product_read x y a b (size_64 a p) (omega (arith, shorter)) (short_product a b p q) (x_is ∙ to_z-of_z w64 a p) (y_is ∙ to_z-of_z w64 b q)

terms_read : (t x y a b : ℤ) → unsigned_abs t ≤ 2 ^ 126 → unsigned_abs a ≤ 2 ^ 63 → unsigned_abs b ≤ 2 ^ 98 → unsigned_abs (a *ℤ b) ≤ 2 ^ 113 → x ≡ a → y ≡ b
    → to_z w128 (of_z w128 t) +ℤ to_z w128 (of_z w128 (to_z w128 (of_z w128 x) *ℤ to_z w128 (of_z w128 y))) ≡ t +ℤ (a *ℤ b)
terms_read t x y a b small p q product x_is y_is =
    let total : FitsSigned w128 t = fits_signed_from_abs w128 t (omega (arith, small)) in
    rw (product_read x y a b p q (omega (arith, product)) x_is y_is, to_z-of_z w128 t total) refl

small_sum_fits : (t p : ℤ) → unsigned_abs t ≤ 2 ^ 126 → unsigned_abs p ≤ 2 ^ 113 → FitsSigned w128 (t +ℤ p)
small_sum_fits t p small shorter = fits_signed_from_abs w128 _ (omega (arith, ints, small, shorter))

add_small_fits : (t x y a b : ℤ) → unsigned_abs t ≤ 2 ^ 126 → unsigned_abs a ≤ 2 ^ 63 → unsigned_abs b ≤ 2 ^ 98 → unsigned_abs (a *ℤ b) ≤ 2 ^ 113
    → x ≡ a → y ≡ b → FitsSigned w128 (to_z w128 (of_z w128 t) +ℤ to_z w128 (of_z w128 (to_z w128 (of_z w128 x) *ℤ to_z w128 (of_z w128 y))))
add_small_fits t x y a b small p q product x_is y_is = rw (terms_read t x y a b small p q product x_is y_is) (small_sum_fits t (a *ℤ b) small product)

add_small_read : (t x y a b : ℤ) → unsigned_abs t ≤ 2 ^ 126 → unsigned_abs a ≤ 2 ^ 63 → unsigned_abs b ≤ 2 ^ 98 → unsigned_abs (a *ℤ b) ≤ 2 ^ 113 → x ≡ a → y ≡ b
    → to_z w128 (of_z w128 (to_z w128 (of_z w128 t) +ℤ to_z w128 (of_z w128 (to_z w128 (of_z w128 x) *ℤ to_z w128 (of_z w128 y))))) ≡ t +ℤ (a *ℤ b)
add_small_read t x y a b small p q product x_is y_is =
    rw (terms_read t x y a b small p q product x_is y_is) (to_z-of_z w128 (t +ℤ (a *ℤ b)) (small_sum_fits t (a *ℤ b) small product))

pub add_shorter_read : (t x y a b : ℤ) → unsigned_abs t ≤ 2 ^ 126 → FitsSigned w64 a → FitsSigned w32 b → x ≡ to_z w64 (of_z w64 a) → y ≡ to_z w32 (of_z w32 b)
    → to_z w128 (of_z w128 (to_z w128 (of_z w128 t) +ℤ to_z w128 (of_z w128 (to_z w128 (of_z w128 x) *ℤ to_z w128 (of_z w128 y))))) ≡ t +ℤ (a *ℤ b)
add_shorter_read t x y a b small p q x_is y_is =
    let product = shorter_product a b p q in
    let shorter = size_32 b q in
    add_small_read t x y a b small (size_64 a p) (omega (arith, shorter)) (omega (arith, product)) (x_is ∙ to_z-of_z w64 a p) (y_is ∙ to_z-of_z w32 b q)

pub add_counted_read : (t x a b : ℤ) → unsigned_abs t ≤ 2 ^ 126 → FitsSigned w16 a → unsigned_abs b ≤ 2 ^ 98 → x ≡ to_z w16 (of_z w16 a)
    → to_z w128 (of_z w128 (to_z w128 (of_z w128 t) +ℤ to_z w128 (of_z w128 (to_z w128 (of_z w128 x) *ℤ to_z w128 (of_z w128 b))))) ≡ t +ℤ (a *ℤ b)
add_counted_read t x a b small p q x_is =
    let shorter = size_16 a p in
    add_small_read t x b a b small (omega (arith, shorter)) q (counted_product a b p q) (x_is ∙ to_z-of_z w16 a p) refl

-- ---- and that it fits there
pub shorter_fits : (x y a b : ℤ) → FitsSigned w64 a → FitsSigned w32 b → x ≡ to_z w64 (of_z w64 a) → y ≡ to_z w32 (of_z w32 b)
    → FitsSigned w128 (to_z w128 (of_z w128 x) *ℤ to_z w128 (of_z w128 y))
shorter_fits x y a b p q x_is y_is =
    let product = shorter_product a b p q in
    let shorter = size_32 b q in
    product_fits x y a b (size_64 a p) (omega (arith, shorter)) (omega (arith, product)) (x_is ∙ to_z-of_z w64 a p) (y_is ∙ to_z-of_z w32 b q)

pub add_shorter_fits : (t x y a b : ℤ) → unsigned_abs t ≤ 2 ^ 126 → FitsSigned w64 a → FitsSigned w32 b → x ≡ to_z w64 (of_z w64 a) → y ≡ to_z w32 (of_z w32 b)
    → FitsSigned w128 (to_z w128 (of_z w128 t) +ℤ to_z w128 (of_z w128 (to_z w128 (of_z w128 x) *ℤ to_z w128 (of_z w128 y))))
add_shorter_fits t x y a b small p q x_is y_is =
    let product = shorter_product a b p q in
    let shorter = size_32 b q in
    add_small_fits t x y a b small (size_64 a p) (omega (arith, shorter)) (omega (arith, product)) (x_is ∙ to_z-of_z w64 a p) (y_is ∙ to_z-of_z w32 b q)

pub counted_fits : (x a b : ℤ) → FitsSigned w16 a → unsigned_abs b ≤ 2 ^ 98 → x ≡ to_z w16 (of_z w16 a)
    → FitsSigned w128 (to_z w128 (of_z w128 x) *ℤ to_z w128 (of_z w128 b))
counted_fits x a b p q x_is =
    let shorter = size_16 a p in
    let product = counted_product a b p q in
    product_fits x b a b (omega (arith, shorter)) q (omega (arith, product)) (x_is ∙ to_z-of_z w16 a p) refl

pub add_counted_fits : (t x a b : ℤ) → unsigned_abs t ≤ 2 ^ 126 → FitsSigned w16 a → unsigned_abs b ≤ 2 ^ 98 → x ≡ to_z w16 (of_z w16 a)
    → FitsSigned w128 (to_z w128 (of_z w128 t) +ℤ to_z w128 (of_z w128 (to_z w128 (of_z w128 x) *ℤ to_z w128 (of_z w128 b))))
add_counted_fits t x a b small p q x_is =
    let shorter = size_16 a p in
    add_small_fits t x b a b small (omega (arith, shorter)) q (counted_product a b p q) (x_is ∙ to_z-of_z w16 a p) refl
