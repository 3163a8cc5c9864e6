-- The primitive vector has the direction of the fractions.
use Rattle.std.proofs.Common.{◌≡◌, ℕ, ◌-◌, ◌*◌, ◌/◌, ◌<◌, ◌≤◌, List, [], ◌∷◌, length, arith, sym, ap, subst, ◌∙◌, pos, ◌*ℤ◌, Ok}
use Rattle.std.specs.Int.{◌∣◌}
use Rattle.std.specs.List.{sum, All}
use Rattle.std.proofs.Math.Nat.{dvd_refl, dvd_trans, dvd-mul_left, mul-dvd-mul_left, mul-dvd-mul_right, dvd_of_mul-dvd-mul_right, div-mul_cancel, mul_assoc, mul_comm, one-dvd}
use Rattle.std.proofs.lemmas.Int.{ints}
use Rattle.std.proofs.lemmas.Nat.{mul-lt}
use Rattle.std.proofs.lemmas.List.{length-map}
use Rattle.std.proofs.lemmas.List.Elements.{All-head, All-tail, All-nil, All-cons}
use Rattle.arithmetic.specs.Gcd.{gcd}
use Rattle.arithmetic.specs.Sums.{positive_part}
use Rattle.arithmetic.proofs.Integers.{*ℤ_cancel}
use Rattle.arithmetic.proofs.Products.{products}
use Rattle.arithmetic.proofs.GcdLaws.{gcd_dvd_left, gcd_dvd_right, gcd_pos_left, coprime_of_div, dvd_of_coprime, pos_of_quotient}
use Rattle.exact_num.specs.Fraction.{Fraction, IsLowest, whole}
use Rattle.exact_num.specs.Fits.{mul_of, after}
use Rattle.exact_num.specs.CommonDenominator.{amount_over, amounts_over}
use Rattle.exact_num.proofs.After.{after_value}
use Rattle.exact_num.proofs.Exactness.{products_are_exact}
use Rattle.exact_num.proofs.Fractions.{amount_is_exact}
use Rattle.exact_num.proofs.Order.{lowest_is_unique}
use Rattle.exact_num.proofs.Values.{whole_is_lowest}
use Rattle.exact_num.proofs.WholeNumbers.{mul_whole_is}
use Rattle.exact_num.specs.Steps.{fold_steps}
use Rattle.form.specs.Primitive.{IsDirection, IsCommonMultiple, IsPrimitiveOf, IsPrimitiveDirection, multiple_with, common_multiple_of, multiples_of, primitive_vector, primitive_of}
use Rattle.form.specs.Vector.{IsState}
use Rattle.form.proofs.Divisors.{primitive_vectors_are_primitive}
use Rattle.form.proofs.Multiples.{multiples_above}

-- ---- the least common multiple of two numbers, n / gcd(n, d) * d
least_multiple_above : (n d : ℕ) → 0 < n → 0 < d → 0 < (n / gcd n d) * d
least_multiple_above n d some one =
    mul-lt 0 0 (n / gcd n d) d (pos_of_quotient n (gcd n d) some (gcd_pos_left n d some) (gcd_dvd_left n d)) one

divides_multiple : (n d : ℕ) → n ∣ (n / gcd n d) * d
divides_multiple n d =
    subst (λ (k : ℕ). k ∣ (n / gcd n d) * d) (div-mul_cancel (gcd n d) (gcd_dvd_left n d)) (mul-dvd-mul_left (gcd n d) (n / gcd n d) (gcd_dvd_right n d))

divides_each_multiple : (n d m : ℕ) → 0 < n → n ∣ m → d ∣ m → (n / gcd n d) * d ∣ m
divides_each_multiple n d m some by_n by_d =
    let g = gcd n d in
    let a = n / g in
    let b = d / g in
    let k = m / d in
    let above : 0 < g = gcd_pos_left n d some in
    let of_n : a * g ≡ n = div-mul_cancel g (gcd_dvd_left n d) in
    let of_d : b * g ≡ d = div-mul_cancel g (gcd_dvd_right n d) in
    let of_m : k * d ≡ m = div-mul_cancel d by_d in
    let turned : m ≡ (b * k) * g = sym of_m ∙ ap (λ (x : ℕ). k * x) (sym of_d) ∙ sym (mul_assoc k b g) ∙ ap (λ (x : ℕ). x * g) (mul_comm k b) in
    let both : a * g ∣ (b * k) * g = subst (λ (x : ℕ). x ∣ (b * k) * g) (sym of_n) (subst (λ (x : ℕ). n ∣ x) turned by_n) in
    let rest : a ∣ k = dvd_of_coprime a b k (coprime_of_div n d above) (dvd_of_mul-dvd-mul_right a above both) in
    subst (λ (x : ℕ). a * d ∣ x) of_m (mul-dvd-mul_right a rest d)

-- ---- the denominators, taken in one after another
record Reaches (n : ℕ) (fs : List Fraction) (D : Fraction) : Type 0 where
  value : ℕ
  is : D ≡ whole (pos value)
  positive : 1 ≤ value
  start : n ∣ value
  multiple : IsCommonMultiple fs value
  least : (m : ℕ) → n ∣ m → IsCommonMultiple fs m → value ∣ m

reaches : (limit n : ℕ) (fs : List Fraction) (D : Fraction) → 1 ≤ n → All IsLowest fs → fold_steps (multiple_with limit) (whole (pos n)) fs ≡ Ok D → Reaches n fs D
reaches limit n [] D one lowest h = record {
  value = n;
  is = cc;
  positive = one;
  start = dvd_refl n;
  multiple = All-nil (λ (f : Fraction). f.denominator ∣ n);
  least = λ m by all. by;
}
reaches limit n (f ∷ fs) D one lowest h =
    let d = f.denominator in
    let k = (n / gcd n d) * d in
    let step = after_value (multiple_with limit (whole (pos n)) f) (λ more. fold_steps (multiple_with limit) more fs) D h in
    let is : step.value ≡ whole (pos k) = mul_whole_is limit (pos (n / gcd n d)) (pos d) step.value step.first in
    let above : 0 < k = least_multiple_above n d one (All-head IsLowest f fs lowest).positive in
    let rest = reaches limit k fs D above (All-tail IsLowest f fs lowest) (ap (λ (x : Fraction). fold_steps (multiple_with limit) x fs) (sym is) ∙ step.rest) in
    record {
      value = rest.value;
      is = rest.is;
      positive = rest.positive;
      start = dvd_trans n (divides_multiple n d) rest.start;
      multiple = All-cons (λ (f : Fraction). f.denominator ∣ rest.value) f fs (dvd_trans d (dvd-mul_left d (n / gcd n d)) rest.start) rest.multiple;
      least = λ m by all.
          rest.least m (divides_each_multiple n d m one by (All-head (λ (f : Fraction). f.denominator ∣ m) f fs all)) (All-tail (λ (f : Fraction). f.denominator ∣ m) f fs all);
    }

-- ---- each fraction times that is what stands over it
times_is : (limit D : ℕ) (f p : Fraction) → IsLowest f → f.denominator ∣ D → mul_of limit f (whole (pos D)) ≡ Ok p → p ≡ whole (amount_over D f)
times_is limit D f p lowest by ok =
    let exact = products_are_exact limit f (whole (pos D)) p lowest (whole_is_lowest (pos D)) ok in
    let amount = amount_over D f in
    lowest_is_unique p (whole amount) exact.lowest (whole_is_lowest amount)
    (*ℤ_cancel f.denominator _ _ lowest.positive (omega (arith, ints, products, exact.same, ap (λ w. w *ℤ pos p.denominator) (amount_is_exact D f by))))

pub multiples_are_amounts : (limit D : ℕ) (fs : List Fraction) (z : List ℕ) → All IsLowest fs → IsCommonMultiple fs D → multiples_of limit (whole (pos D)) fs ≡ Ok z
    → z ≡ amounts_over D fs
multiples_are_amounts limit D [] z lowest by ok = cc
multiples_are_amounts limit D (f ∷ fs) z lowest by ok =
    let P : Fraction → Type 0 = λ f. f.denominator ∣ D in
    let first = after_value (mul_of limit f (whole (pos D))) (λ p. after (multiples_of limit (whole (pos D)) fs) (λ z. Ok (positive_part p.numerator ∷ z))) z ok in
    let rest = after_value (multiples_of limit (whole (pos D)) fs) (λ z. Ok (positive_part first.value.numerator ∷ z)) z first.rest in
    let here : first.value ≡ whole (amount_over D f) = times_is limit D f first.value (All-head IsLowest f fs lowest) (All-head P f fs by) first.first in
    let there : rest.value ≡ amounts_over D fs = multiples_are_amounts limit D fs rest.value (All-tail IsLowest f fs lowest) (All-tail P f fs by) rest.first in
    let all : z ≡ positive_part first.value.numerator ∷ rest.value = let e = rest.rest in cc in
    all ∙ ap (λ (p : Fraction). positive_part p.numerator ∷ rest.value) here ∙ ap (λ (l : List ℕ). positive_part (amount_over D f) ∷ l) there

-- ---- all the steps
pub primitive_direction : (limit : ℕ) (fs : List Fraction) (y : List ℕ) → All IsLowest fs → IsDirection fs → primitive_of limit fs ≡ Ok y → IsPrimitiveDirection fs y
unfolding primitive_of
primitive_direction limit fs y lowest direction ok =
    let first = after_value (common_multiple_of limit fs) (λ D. after (multiples_of limit D fs) (λ z. Ok (primitive_vector z))) y ok in
    let rest = after_value (multiples_of limit first.value fs) (λ z. Ok (primitive_vector z)) y first.rest in
    let reached = reaches limit 1 fs first.value (omega arith) lowest first.first in
    let D = reached.value in
    let steps : multiples_of limit (whole (pos D)) fs ≡ Ok rest.value = ap (λ (x : Fraction). multiples_of limit x fs) (sym reached.is) ∙ rest.first in
    let amounts : rest.value ≡ amounts_over D fs = multiples_are_amounts limit D fs rest.value lowest reached.multiple steps in
    let some : 0 < _ = multiples_above limit (whole (pos D)) fs rest.value (whole_is_lowest (pos D)) (omega (arith, ints, reached.positive)) lowest direction.not_below_zero direction.not_all_zero steps in
    let is : primitive_vector (amounts_over D fs) ≡ y = ap primitive_vector (sym amounts) ∙ (let e = rest.rest in cc) in
    let state : IsState (length fs - 1) (amounts_over D fs) = (length-map fs (λ f. positive_part (amount_over D f)) ∙ omega (arith, direction.some), subst (λ (z : List ℕ). 0 < sum z) amounts some) in
    record {
      denominator = D;
      least = record { positive = reached.positive; multiple = reached.multiple; least = λ m all. reached.least m (one-dvd m) all };
      primitive = subst (IsPrimitiveOf (length fs - 1) (amounts_over D fs)) is (primitive_vectors_are_primitive (length fs - 1) (amounts_over D fs) state);
    }
