-- The steps of a product.
use Rattle.std.proofs.Common.{◌≡◌, ℕ, ◌*◌, ◌/◌, ◌≤◌, true, false, ℤ, pos, negsuc, ◌*ℤ◌, refl, sym, ap, ◌∙◌}
use Rattle.std.specs.Prelude.{Option, Some, None, unsigned_abs, nat_le, int_div, if◌then◌else◌}
use Rattle.arithmetic.specs.Gcd.{gcd}
use Rattle.exact_num.specs.declared.misfit.Operator.TheVariants.{Mul}
use Rattle.exact_num.specs.Fraction.{Fraction, IsLowest, over}
use Rattle.exact_num.specs.Fits.{size_fits, product_above, product_below, product_fits, product_value, mul_of, misfit, signed_by, product_within}
use Rattle.exact_num.specs.Laws.{IsWithin}
use Rattle.exact_num.proofs.Exactness.{products_are_exact}
use Rattle.frac.specs.Range.{within, within_natural}
use Rattle.exact_num.proofs.Answered.{some_answers}
use Rattle.frac.proofs.Choices.{chosen_none, chosen_some}
use Rattle.std.proofs.lemmas.Bool.{leb-true}
use Rattle.exact_num.proofs.WholeNumbers.{product_fits-wholes, product_value-wholes}

-- a quotient of sizes, with the sign of the number
pub signed_quotient : (n : ℤ) (g : ℕ) → signed_by n (pos (unsigned_abs n / g)) ≡ int_div n (pos g)
signed_quotient (pos n) g = refl
signed_quotient (negsuc n) g = refl

-- the factors without their common divisors, multiplied
pub above_is : (x y : Fraction) (g h : ℕ) (a c : ℤ) → g ≡ gcd (unsigned_abs x.numerator) y.denominator → h ≡ gcd (unsigned_abs y.numerator) x.denominator
    → a ≡ int_div x.numerator (pos g) → c ≡ int_div y.numerator (pos h) → a *ℤ c ≡ product_above x y
unfolding product_above
above_is x y g h a c eg eh ea ec =
    ap (λ (z : ℤ). z *ℤ c) (ea ∙ ap (λ (n : ℕ). int_div x.numerator (pos n)) eg)
    ∙ ap (λ (z : ℤ). int_div x.numerator (pos (gcd (unsigned_abs x.numerator) y.denominator)) *ℤ z) (ec ∙ ap (λ (n : ℕ). int_div y.numerator (pos n)) eh)

pub below_is : (x y : Fraction) (g h b d : ℕ) → g ≡ gcd (unsigned_abs x.numerator) y.denominator → h ≡ gcd (unsigned_abs y.numerator) x.denominator
    → b ≡ x.denominator / h → d ≡ y.denominator / g → b * d ≡ product_below x y
unfolding product_below
below_is x y g h b d eg eh eb ed =
    ap (λ (n : ℕ). n * d) (eb ∙ ap (λ (n : ℕ). x.denominator / n) eh)
    ∙ ap (λ (n : ℕ). x.denominator / gcd (unsigned_abs y.numerator) x.denominator * n) (ed ∙ ap (λ (n : ℕ). y.denominator / n) eg)

pub above_stops : (limit : ℕ) (x y : Fraction) (above : Option ℤ) → above ≡ within limit (product_above x y) → above ≡ None → None ≡ product_within limit x y
unfolding product_fits
above_stops limit x y above e n =
    let f : size_fits limit (product_above x y) ≡ false = chosen_none _ _ above e n in
    rw f refl

pub below_stops : (limit : ℕ) (x y : Fraction) (above : Option ℤ) (w : ℤ) (below : Option ℕ) → above ≡ within limit (product_above x y) → above ≡ Some w
    → below ≡ within_natural limit (product_below x y) → below ≡ None → None ≡ product_within limit x y
unfolding product_fits
below_stops limit x y above w below e s f n =
    let first : size_fits limit (product_above x y) ≡ true = (chosen_some _ _ w above e s).0 in
    let second : nat_le (product_below x y) limit ≡ false = chosen_none _ _ below f n in
    rw (first, second) refl

-- what is known where both steps of a product are in range
pub record ProductEnds (limit : ℕ) (x y : Fraction) (w : ℤ) (b : ℕ) : Type 0 where
  pub fits : product_fits limit x y ≡ true
  pub value : over w b ≡ product_value x y
  pub above : unsigned_abs w ≤ limit
  pub below : b ≤ limit

pub product_ends : (limit : ℕ) (x y : Fraction) (above : Option ℤ) (w : ℤ) (below : Option ℕ) (b : ℕ) → above ≡ within limit (product_above x y) → above ≡ Some w
    → below ≡ within_natural limit (product_below x y) → below ≡ Some b → ProductEnds limit x y w b
unfolding product_fits product_value
product_ends limit x y above w below b e s f n =
    let one = chosen_some _ _ w above e s in
    let two = chosen_some _ _ b below f n in
    let first : size_fits limit (product_above x y) ≡ true = one.0 in
    let second : nat_le (product_below x y) limit ≡ true = two.0 in
    record {
      fits = rw (first, second) refl;
      value = ap (λ (z : ℤ). over z b) one.1 ∙ ap (λ (i : ℕ). over (product_above x y) i) two.1;
      above = rw one.1 (leb-true _ _ one.0);
      below = rw two.1 (leb-true _ _ two.0);
    }

pub product_answers : (limit : ℕ) (x y : Fraction) (w : ℤ) (b : ℕ) → ProductEnds limit x y w b → Some (over w b) ≡ product_within limit x y
product_answers limit x y w b h =
    let fits : product_fits limit x y ≡ true = h.fits in
    rw fits (ap Some h.value)

-- a product that is found is within the limit
pub product_is_within : (limit : ℕ) (x y s : Fraction) → IsLowest x → IsLowest y → Some s ≡ product_within limit x y → IsWithin limit s
unfolding mul_of
product_is_within limit x y s p q e = (products_are_exact limit x y s p q (sym (some_answers (product_fits limit x y) s (product_value x y) (misfit Mul x y) e))).within

-- ---- the product of whole numbers
pub wholes_product : (limit : ℕ) (a b : ℤ) (d e : ℕ) → d ≡ 1 → e ≡ 1 → 1 ≤ limit
    → product_within limit (over a d) (over b e) ≡ (if size_fits limit (a *ℤ b) then Some (over (a *ℤ b) 1) else None)
wholes_product limit a b d e p q one = rw (p, q, product_fits-wholes limit a b one, product_value-wholes a b) refl
