-- What fits a limit fits a greater one, with the same value.
use Rattle.std.proofs.Common.{◌≡◌, ℕ, ◌≤◌, arith, refl, ℤ, unsigned_abs, Bool, true, false, ◌&&◌}
use Rattle.std.specs.Prelude.{Ok, Err, if◌then◌else◌, nat_le}
use Rattle.std.proofs.lemmas.Bool.{and_parts}
use Rattle.std.proofs.lemmas.Bool.Decides.{nat_tests}
use Rattle.exact_num.specs.declared.misfit.Wide.{Wide}
use Rattle.exact_num.specs.Fraction.{Fraction, whole}
use Rattle.exact_num.specs.Fits.{size_fits, sum_fits, sum_value, add_of, sum_left, sum_right, sum_total, sum_below, product_fits, product_value, product_above, product_below, mul_of, div_of, whole_of, inverse}

-- ---- the tests of a step
pub le_more : (n l l' : ℕ) → l ≤ l' → nat_le n l ≡ true → nat_le n l' ≡ true
le_more n l l' h k = grind (arith, nat_tests)

and_more : (a b a' b' : Bool) → (a ≡ true → a' ≡ true) → (b ≡ true → b' ≡ true) → (a && b) ≡ true → (a' && b') ≡ true
and_more a b a' b' f g h =
    let w = and_parts a b h in
    let p = f w.0 in
    let q = g w.1 in
    rw (p, q) refl

size_more : (l l' : ℕ) (v : ℤ) → l ≤ l' → size_fits l v ≡ true → size_fits l' v ≡ true
size_more l l' v h k = le_more (unsigned_abs v) l l' h k

sum_more : (l l' : ℕ) (x y : Fraction) → l ≤ l' → sum_fits l x y ≡ true → sum_fits l' x y ≡ true
unfolding sum_fits
sum_more l l' x y h =
    and_more _ _ _ _ (and_more _ _ _ _ (and_more _ _ _ _ (size_more l l' (sum_left x y) h) (size_more l l' (sum_right x y) h)) (size_more l l' (sum_total x y) h)) (le_more (sum_below x y) l l' h)

product_more : (l l' : ℕ) (x y : Fraction) → l ≤ l' → product_fits l x y ≡ true → product_fits l' x y ≡ true
unfolding product_fits
product_more l l' x y h = and_more _ _ _ _ (size_more l l' (product_above x y) h) (le_more (product_below x y) l l' h)

-- ---- the steps
if_ok : {A : Type 0} (b b' : Bool) (a s : A) (w w' : Wide) → (b ≡ true → b' ≡ true) → (if b then Ok a else Err w) ≡ Ok s → (if b' then Ok a else Err w') ≡ Ok s
if_ok true b' a s w w' f h = let t = f refl in rw t h
if_ok false b' a s w w' f h = cc

pub add_more : (l l' : ℕ) (x y s : Fraction) → l ≤ l' → add_of l x y ≡ Ok s → add_of l' x y ≡ Ok s
unfolding add_of
add_more l l' x y s h k = if_ok (sum_fits l x y) (sum_fits l' x y) (sum_value x y) s _ _ (sum_more l l' x y h) k

pub mul_more : (l l' : ℕ) (x y s : Fraction) → l ≤ l' → mul_of l x y ≡ Ok s → mul_of l' x y ≡ Ok s
unfolding mul_of
mul_more l l' x y s h k = if_ok (product_fits l x y) (product_fits l' x y) (product_value x y) s _ _ (product_more l l' x y h) k

pub div_more : (l l' : ℕ) (x y s : Fraction) → l ≤ l' → div_of l x y ≡ Ok s → div_of l' x y ≡ Ok s
unfolding div_of
div_more l l' x y s h k = if_ok (product_fits l x (inverse y)) (product_fits l' x (inverse y)) (product_value x (inverse y)) s _ _ (product_more l l' x (inverse y) h) k

pub whole_more : (l l' : ℕ) (v : ℤ) (s : Fraction) → l ≤ l' → whole_of l v ≡ Ok s → whole_of l' v ≡ Ok s
unfolding whole_of
whole_more l l' v s h k = if_ok (size_fits l v) (size_fits l' v) (whole v) s _ _ (size_more l l' v h) k
