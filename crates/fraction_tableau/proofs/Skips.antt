-- Steps with an operand 0, which always fit.
use Rattle.std.proofs.Common.{◌≡◌, ◌≢◌, ℕ, zero, suc, ◌≤◌, List, [], ◌∷◌, map, arith, refl, sym, ◌∙◌, ap, ℤ, pos, negsuc, unsigned_abs, true, nat_eq}
use Rattle.std.specs.Prelude.{Result, Ok, Err}
use Rattle.std.proofs.lemmas.Bool.Decides.{nat_tests}
use Rattle.exact_num.specs.declared.misfit.Wide.{Wide}
use Rattle.exact_num.specs.Fraction.{Fraction, IsLowest, negated}
use Rattle.exact_num.specs.Fits.{mul_of, sub_of, div_of, meaning}
use Rattle.exact_num.proofs.Values.{whole_is_lowest}
use Rattle.exact_num.proofs.Units.{add-zero, mul-zero, zero-mul, zero-div, zero-sub, zero_is}
use Rattle.simplex_run.specs.Places.{at, fraction_zero}
use Rattle.simplex_run.specs.Pivot.{less_product}
use Rattle.fraction_tableau.specs.Nonzero.{is_zero}

-- a fraction in lowest terms within the limit
pub record IsNumber (limit : ℕ) (x : Fraction) : Type 0 where
  pub lowest : IsLowest x
  pub above : unsigned_abs x.numerator ≤ limit
  pub below : x.denominator ≤ limit

pub list_number : {A : Type 0} (value : A → Fraction) (limit : ℕ) → 1 ≤ limit → ((x : A) → IsNumber limit (value x)) → (xs : List A) (k : ℕ) → IsNumber limit (at (map value xs) k)
list_number value limit one h [] k = record { lowest = whole_is_lowest (pos 0); above = omega arith; below = one }
list_number value limit one h (x ∷ xs) zero = h x
list_number value limit one h (x ∷ xs) (suc k) = list_number value limit one h xs k

size_zero : (z : ℤ) → unsigned_abs z ≡ 0 → z ≡ pos 0
size_zero (pos n) h = ap pos h
size_zero (negsuc n) h = absurd (omega (arith, h))

test_zero : (n : ℕ) → nat_eq n 0 ≡ true → n ≡ 0
test_zero n h = grind (arith, nat_tests)

pub is_zero_true : (x : Fraction) → IsLowest x → is_zero x ≡ true → x ≡ fraction_zero
is_zero_true x low t = zero_is x low (size_zero x.numerator (test_zero (unsigned_abs x.numerator) t))

-- 0 over a number
pub zero_over : (limit : ℕ) (x y : Fraction) → 1 ≤ limit → IsNumber limit x → IsNumber limit y → is_zero x ≡ true → y.numerator ≢ pos 0 → div_of limit x y ≡ Ok x
zero_over limit x y one nx ny t ne =
    let e = is_zero_true x nx.lowest t in
    ap (λ w. div_of limit w y) e ∙ zero-div limit y ny.lowest ne one ∙ ap Ok (sym e)

-- a number less a product that is 0
pub less_none : (limit : ℕ) (f x p : Fraction) → 1 ≤ limit → IsNumber limit f → IsNumber limit x → IsNumber limit p → is_zero p ≡ true → less_product limit f x p ≡ Ok x
less_none limit f x p one nf nx np t =
    let product = ap (mul_of limit f) (is_zero_true p np.lowest t) ∙ mul-zero limit f nf.lowest one in
    rw product (add-zero limit x nx.above nx.below)

pub less_no_times : (limit : ℕ) (f x p : Fraction) → 1 ≤ limit → IsNumber limit f → IsNumber limit x → IsNumber limit p → is_zero f ≡ true → less_product limit f x p ≡ Ok x
less_no_times limit f x p one nf nx np t =
    let product = ap (λ w. mul_of limit w p) (is_zero_true f nf.lowest t) ∙ zero-mul limit p np.lowest one in
    rw product (add-zero limit x nx.above nx.below)

-- 0 less a product
pub zero_less : {A : Type 0} (value : A → Fraction) (limit : ℕ) (f x p : Fraction) (r : Result A Wide) (a b : A) → ((x : A) → IsNumber limit (value x)) → IsNumber limit x → is_zero x ≡ true → meaning value r ≡ mul_of limit f p → r ≡ Ok a → value b ≡ negated (value a) → Ok (value b) ≡ less_product limit f x p
zero_less value limit f x p r a b numbers nx t m is_a is_b =
    let product : mul_of limit f p ≡ Ok (value a) = sym m ∙ ap (meaning value) is_a in
    let na = numbers a in
    rw product (ap Ok is_b ∙ sym (ap (λ w. sub_of limit w (value a)) (is_zero_true x nx.lowest t) ∙ zero-sub limit (value a) na.lowest na.above na.below))

pub product_stops : {A : Type 0} (value : A → Fraction) (limit : ℕ) (f x p : Fraction) (r : Result A Wide) (w : Wide) → meaning value r ≡ mul_of limit f p → r ≡ Err w → Err w ≡ less_product limit f x p
product_stops value limit f x p r w m is_w =
    let product : mul_of limit f p ≡ Err w = sym m ∙ ap (meaning value) is_w in
    rw product refl
