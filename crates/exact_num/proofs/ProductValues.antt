-- What a product and an inverse give, as values in lowest terms.
use Rattle.std.proofs.Common.{◌≡◌, ℕ, zero, suc, ◌*◌, ◌/◌, ◌<◌, ℤ, pos, negsuc, ◌*ℤ◌, unsigned_abs, ◌≢◌, arith, refl, sym, ◌∙◌, ap, subst}
use Rattle.std.specs.Prelude.{int_div}
use Rattle.std.specs.Int.{◌∣◌}
use Rattle.std.proofs.lemmas.Int.{unsigned_abs-mul}
use Rattle.std.proofs.Math.IntN.{*ℤ_comm}
use Rattle.std.proofs.Math.Nat.{div-mul_cancel, dvd-mul_right, mul-pos}
use Rattle.arithmetic.specs.Gcd.{gcd}
use Rattle.arithmetic.proofs.GcdLaws.{gcd_dvd_left, gcd_dvd_right, gcd_pos_right, gcd_comm, coprime_of_div, coprime_of_dvd, coprime_of_mul, pos_of_quotient}
use Rattle.arithmetic.proofs.Integers.{*ℤ_assoc, unsigned_abs-neg}
use Rattle.arithmetic.proofs.Quotients.{int_div-mul_cancel, unsigned_abs-int_div}
use Rattle.exact_num.specs.Fraction.{Fraction, IsLowest, IsSameValue, plain_product}
use Rattle.exact_num.specs.Fits.{product_above, product_below, product_value, inverse, signed_by}

-- factors gathered
gathered : (x y : ℤ) (m n : ℕ) → (x *ℤ pos m) *ℤ (y *ℤ pos n) ≡ (x *ℤ y) *ℤ pos (m * n)
gathered x y m n =
    *ℤ_assoc x (pos m) (y *ℤ pos n)
    ∙ ap (λ (z : ℤ). x *ℤ z) (sym (*ℤ_assoc (pos m) y (pos n)) ∙ ap (λ (z : ℤ). z *ℤ pos n) (*ℤ_comm (pos m) y) ∙ *ℤ_assoc y (pos m) (pos n))
    ∙ sym (*ℤ_assoc x y (pos (m * n)))

product_cross : (a c A C : ℤ) (b d B D g h : ℕ) → A *ℤ pos g ≡ a → C *ℤ pos h ≡ c → B * h ≡ b → D * g ≡ d → (A *ℤ C) *ℤ pos (b * d) ≡ (a *ℤ c) *ℤ pos (B * D)
product_cross a c A C b d B D g h ea ec eb ed =
    let below : b * d ≡ g * h * (B * D) = ap (λ (n : ℕ). n * d) (sym eb) ∙ ap (λ (n : ℕ). B * h * n) (sym ed) ∙ omega arith in
    let above : a *ℤ c ≡ (A *ℤ C) *ℤ pos (g * h) = ap (λ (z : ℤ). z *ℤ c) (sym ea) ∙ ap (λ (z : ℤ). (A *ℤ pos g) *ℤ z) (sym ec) ∙ gathered A C g h in
    ap (λ (n : ℕ). (A *ℤ C) *ℤ pos n) below ∙ sym (*ℤ_assoc (A *ℤ C) (pos (g * h)) (pos (B * D))) ∙ ap (λ (z : ℤ). z *ℤ pos (B * D)) (sym above)

-- the value of a product is the product of the values
pub product_is : (x y : Fraction) → IsSameValue (product_value x y) (plain_product x y)
unfolding product_value product_above product_below
product_is x y =
    product_cross x.numerator y.numerator _ _ x.denominator y.denominator _ _ (gcd (unsigned_abs x.numerator) y.denominator) (gcd (unsigned_abs y.numerator) x.denominator)
    (int_div-mul_cancel x.numerator _ (gcd_dvd_left _ _))
    (int_div-mul_cancel y.numerator _ (gcd_dvd_left _ _))
    (div-mul_cancel (gcd (unsigned_abs y.numerator) x.denominator) (gcd_dvd_right _ _))
    (div-mul_cancel (gcd (unsigned_abs x.numerator) y.denominator) (gcd_dvd_right _ _))

quotient_dvd : (n g : ℕ) → g ∣ n → n / g ∣ n
quotient_dvd n g h = subst (λ (m : ℕ). n / g ∣ m) (div-mul_cancel g h) (dvd-mul_right (n / g) g)

-- parts of numbers with nothing in common have nothing in common
coprime_parts : (a b p q : ℕ) → gcd a b ≡ 1 → p ∣ a → q ∣ b → gcd p q ≡ 1
coprime_parts a b p q one h k = gcd_comm p q ∙ coprime_of_dvd b p q (gcd_comm b p ∙ coprime_of_dvd a b p one h) k

lowest_product : (a b c d : ℕ) → 0 < b → 0 < d → gcd a b ≡ 1 → gcd c d ≡ 1 → gcd (a / gcd a d * (c / gcd c b)) (b / gcd c b * (d / gcd a d)) ≡ 1
lowest_product a b c d pb pd one two =
    let g = gcd a d in
    let h = gcd c b in
    let A_b : gcd (a / g) (b / h) ≡ 1 = coprime_parts a b (a / g) (b / h) one (quotient_dvd a g (gcd_dvd_left a d)) (quotient_dvd b h (gcd_dvd_right c b)) in
    let A_d : gcd (a / g) (d / g) ≡ 1 = coprime_of_div a d (gcd_pos_right a d pd) in
    let C_b : gcd (c / h) (b / h) ≡ 1 = coprime_of_div c b (gcd_pos_right c b pb) in
    let C_d : gcd (c / h) (d / g) ≡ 1 = coprime_parts c d (c / h) (d / g) two (quotient_dvd c h (gcd_dvd_left c b)) (quotient_dvd d g (gcd_dvd_right a d)) in
    let all_b : gcd (b / h) (a / g * (c / h)) ≡ 1 = gcd_comm (b / h) _ ∙ coprime_of_mul (a / g) (c / h) (b / h) A_b C_b in
    let all_d : gcd (d / g) (a / g * (c / h)) ≡ 1 = gcd_comm (d / g) _ ∙ coprime_of_mul (a / g) (c / h) (d / g) A_d C_d in
    gcd_comm _ (b / h * (d / g)) ∙ coprime_of_mul (b / h) (d / g) (a / g * (c / h)) all_b all_d

pub product_is_lowest : (x y : Fraction) → IsLowest x → IsLowest y → IsLowest (product_value x y)
unfolding product_value product_above product_below
product_is_lowest x y p q =
    let a = unsigned_abs x.numerator in
    let b = x.denominator in
    let c = unsigned_abs y.numerator in
    let d = y.denominator in
    let size : unsigned_abs (product_above x y) ≡ a / gcd a d * (c / gcd c b) =
    unsigned_abs-mul (int_div x.numerator (pos (gcd a d))) (int_div y.numerator (pos (gcd c b)))
    ∙ ap (λ (n : ℕ). n * unsigned_abs (int_div y.numerator (pos (gcd c b)))) (unsigned_abs-int_div x.numerator (gcd a d))
    ∙ ap (λ (n : ℕ). a / gcd a d * n) (unsigned_abs-int_div y.numerator (gcd c b)) in
    record {
      positive = mul-pos (pos_of_quotient b (gcd c b) p.positive (gcd_pos_right c b p.positive) (gcd_dvd_right c b)) (pos_of_quotient d (gcd a d) q.positive (gcd_pos_right a d q.positive) (gcd_dvd_right a d));
      coprime = ap (λ (n : ℕ). gcd n (product_below x y)) size ∙ lowest_product a b c d p.positive q.positive p.coprime q.coprime;
    }

-- ---- the inverse
pub unsigned_abs-signed_by : (n z : ℤ) → unsigned_abs (signed_by n z) ≡ unsigned_abs z
unsigned_abs-signed_by (pos n) z = refl
unsigned_abs-signed_by (negsuc n) z = unsigned_abs-neg z

pub positive_size : (n : ℤ) → n ≢ pos 0 → 0 < unsigned_abs n
positive_size (pos zero) h = absurd (h refl)
positive_size (pos (suc n)) h = omega arith
positive_size (negsuc n) h = omega arith

pub inverse_is_lowest : (x : Fraction) → IsLowest x → x.numerator ≢ pos 0 → IsLowest (inverse x)
unfolding inverse
inverse_is_lowest x p ne =
    record {
      positive = positive_size x.numerator ne;
      coprime = ap (λ (n : ℕ). gcd n (unsigned_abs x.numerator)) (unsigned_abs-signed_by x.numerator (pos x.denominator)) ∙ gcd_comm x.denominator (unsigned_abs x.numerator) ∙ p.coprime;
    }
