-- What the operations give, as values: the sum, the product and the quotient, in lowest terms.
use Rattle.std.proofs.Common.{◌≡◌, ℕ, ◌*◌, ◌/◌, ◌<◌, ℤ, pos, ◌+ℤ◌, ◌*ℤ◌, unsigned_abs, int_div, arith, refl, sym, ◌∙◌, ap, subst, lit<}
use Rattle.std.proofs.lemmas.Int.{unsigned_abs-mul}
use Rattle.std.specs.Int.{◌∣◌}
use Rattle.std.proofs.Math.IntN.{+ℤ_comm}
use Rattle.std.proofs.Math.Nat.{div-mul_cancel, dvd_trans, dvd-mul_right, dvd-mul_left_of_dvd, eq-one_of_dvd-one, mul-div_assoc, mul-pos, ℕ_set}
use Rattle.arithmetic.specs.Gcd.{gcd}
use Rattle.arithmetic.proofs.GcdLaws.{gcd_dvd_left, gcd_dvd_right, gcd_pos_left, gcd_pos_right, gcd_comm, coprime_of_div, coprime_of_dvd, coprime_of_mul, dvd_gcd, dvd_of_coprime, pos_of_quotient, gcd-one, dvd_part}
use Rattle.arithmetic.proofs.Quotients.{int_div-mul_cancel, unsigned_abs-int_div}
use Rattle.arithmetic.proofs.Integers.{*ℤ_distr, *ℤ_assoc, unsigned_abs-neg}
use Rattle.exact_num.specs.Fraction.{Fraction, IsLowest, IsSameValue, over, negated, plain_sum}
use Rattle.exact_num.specs.Fits.{sum_divisor, sum_left, sum_right, sum_total, sum_common, sum_below, sum_value}
use Rattle.std.proofs.Math.Bridge.{le_prop}

-- ---- a fraction is in lowest terms in one way
pub lowest_prop : (x : Fraction) → IsProp (IsLowest x)
lowest_prop x p q = λ i. record { positive = le_prop p.positive q.positive i; coprime = ℕ_set _ _ p.coprime q.coprime i }

-- ---- whole numbers and negations
pub whole_is_lowest : (n : ℤ) → IsLowest (over n 1)
whole_is_lowest n = record { positive = lit< tt; coprime = gcd-one (unsigned_abs n) }

pub negated_is_lowest : (x : Fraction) → IsLowest x → IsLowest (negated x)
negated_is_lowest x p = record { positive = p.positive; coprime = ap (λ (n : ℕ). gcd n x.denominator) (unsigned_abs-neg x.numerator) ∙ p.coprime }

-- ---- the sum
sum_cross : (a c q T : ℤ) (b d g b' d' g2 D : ℕ) → b ≡ b' * g → d ≡ d' * g → d ≡ D * g2 → T ≡ a *ℤ pos d' +ℤ c *ℤ pos b' → q *ℤ pos g2 ≡ T → q *ℤ pos (b * d) ≡ (a *ℤ pos d +ℤ c *ℤ pos b) *ℤ pos (b' * D)
sum_cross a c q T b d g b' d' g2 D eb ed eD eT eq =
    let below : b * d ≡ g2 * (b' * g * D) = ap (λ (n : ℕ). n * d) eb ∙ ap (λ (n : ℕ). b' * g * n) eD ∙ omega arith in
    let left : q *ℤ pos (b * d) ≡ T *ℤ pos (b' * g * D) = ap (λ (n : ℕ). q *ℤ pos n) below ∙ sym (*ℤ_assoc q (pos g2) (pos (b' * g * D))) ∙ ap (λ (z : ℤ). z *ℤ pos (b' * g * D)) eq in
    let first : a *ℤ pos d ≡ (a *ℤ pos d') *ℤ pos g = ap (λ (n : ℕ). a *ℤ pos n) ed ∙ sym (*ℤ_assoc a (pos d') (pos g)) in
    let second : c *ℤ pos b ≡ (c *ℤ pos b') *ℤ pos g = ap (λ (n : ℕ). c *ℤ pos n) eb ∙ sym (*ℤ_assoc c (pos b') (pos g)) in
    let total : a *ℤ pos d +ℤ c *ℤ pos b ≡ T *ℤ pos g = ap (λ (z : ℤ). z +ℤ c *ℤ pos b) first ∙ ap (λ (z : ℤ). (a *ℤ pos d') *ℤ pos g +ℤ z) second ∙ sym (*ℤ_distr (a *ℤ pos d') (c *ℤ pos b') (pos g)) ∙ ap (λ (z : ℤ). z *ℤ pos g) (sym eT) in
    let right : (a *ℤ pos d +ℤ c *ℤ pos b) *ℤ pos (b' * D) ≡ T *ℤ pos (b' * g * D) = ap (λ (z : ℤ). z *ℤ pos (b' * D)) total ∙ *ℤ_assoc T (pos g) (pos (b' * D)) ∙ ap (λ (n : ℕ). T *ℤ pos n) (omega arith) in
    left ∙ sym right

pub common_dvd : (x y : Fraction) → sum_common x y ∣ sum_divisor x y
unfolding sum_common
common_dvd x y = gcd_dvd_right (unsigned_abs (sum_total x y)) (sum_divisor x y)

pub divisor_dvd_left : (x y : Fraction) → sum_divisor x y ∣ x.denominator
unfolding sum_divisor
divisor_dvd_left x y = gcd_dvd_left x.denominator y.denominator

pub divisor_dvd_right : (x y : Fraction) → sum_divisor x y ∣ y.denominator
unfolding sum_divisor
divisor_dvd_right x y = gcd_dvd_right x.denominator y.denominator

pub common_dvd_right : (x y : Fraction) → sum_common x y ∣ y.denominator
common_dvd_right x y = dvd_trans (sum_common x y) (common_dvd x y) (divisor_dvd_right x y)

common_dvd_total : (x y : Fraction) → sum_common x y ∣ unsigned_abs (sum_total x y)
unfolding sum_common
common_dvd_total x y = gcd_dvd_left (unsigned_abs (sum_total x y)) (sum_divisor x y)

pub divisor_pos : (x y : Fraction) → IsLowest x → 0 < sum_divisor x y
unfolding sum_divisor
divisor_pos x y p = gcd_pos_left x.denominator y.denominator p.positive

divisors_apart : (x y : Fraction) → IsLowest x → gcd (x.denominator / sum_divisor x y) (y.denominator / sum_divisor x y) ≡ 1
unfolding sum_divisor
divisors_apart x y p = coprime_of_div x.denominator y.denominator (gcd_pos_left x.denominator y.denominator p.positive)

-- the value of a sum is the sum of the values
pub sum_is : (x y : Fraction) → IsSameValue (sum_value x y) (plain_sum x y)
unfolding sum_value sum_total sum_left sum_right sum_below
sum_is x y =
    sum_cross x.numerator y.numerator (int_div (sum_total x y) (pos (sum_common x y))) (sum_total x y) x.denominator y.denominator (sum_divisor x y) (x.denominator / sum_divisor x y) (y.denominator / sum_divisor x y) (sum_common x y) (y.denominator / sum_common x y)
    (sym (div-mul_cancel (sum_divisor x y) (divisor_dvd_left x y)))
    (sym (div-mul_cancel (sum_divisor x y) (divisor_dvd_right x y)))
    (sym (div-mul_cancel (sum_common x y) (common_dvd_right x y)))
    refl
    (int_div-mul_cancel (sum_total x y) (sum_common x y) (common_dvd_total x y))

-- what divides a sum of products, one part's factor and is apart from the other factors is 1
apart_from_total : (a c : ℤ) (b' d' k : ℕ) → 0 < d' → k ∣ unsigned_abs (a *ℤ pos d' +ℤ c *ℤ pos b') → k ∣ b' → gcd k (unsigned_abs a) ≡ 1 → gcd b' d' ≡ 1 → k ≡ 1
apart_from_total a c b' d' k p h divides apart one =
    let second : k ∣ unsigned_abs (c *ℤ pos b') = subst (λ (n : ℕ). k ∣ n) (sym (unsigned_abs-mul c (pos b'))) (dvd-mul_left_of_dvd k divides (unsigned_abs c)) in
    let first : k ∣ unsigned_abs a * d' = subst (λ (n : ℕ). k ∣ n) (unsigned_abs-mul a (pos d')) (dvd_part k (a *ℤ pos d') (c *ℤ pos b') h second) in
    let of_d : k ∣ d' = dvd_of_coprime k (unsigned_abs a) d' apart first in
    eq-one_of_dvd-one (subst (λ (n : ℕ). k ∣ n) one (dvd_gcd k b' d' divides of_d))

-- the total has nothing in common with what is left of the denominators
coprime_left : (a c : ℤ) (b d b' d' : ℕ) → 0 < d' → b' ∣ b → gcd (unsigned_abs a) b ≡ 1 → gcd b' d' ≡ 1 → gcd (unsigned_abs (a *ℤ pos d' +ℤ c *ℤ pos b')) b' ≡ 1
coprime_left a c b d b' d' p of_b low one =
    let T = unsigned_abs (a *ℤ pos d' +ℤ c *ℤ pos b') in
    let k = gcd T b' in
    let of_b' : k ∣ b' = gcd_dvd_right T b' in
    let apart : gcd k (unsigned_abs a) ≡ 1 = coprime_of_dvd b (unsigned_abs a) k (gcd_comm b (unsigned_abs a) ∙ low) (dvd_trans k of_b' of_b) in
    apart_from_total a c b' d' k p (gcd_dvd_left T b') of_b' apart one

total_left : (x y : Fraction) → 0 < y.denominator / sum_divisor x y → x.denominator / sum_divisor x y ∣ x.denominator → gcd (unsigned_abs x.numerator) x.denominator ≡ 1 → gcd (x.denominator / sum_divisor x y) (y.denominator / sum_divisor x y) ≡ 1 → gcd (unsigned_abs (sum_total x y)) (x.denominator / sum_divisor x y) ≡ 1
unfolding sum_total sum_left sum_right
total_left x y p of_b low one =
    coprime_left x.numerator y.numerator x.denominator y.denominator (x.denominator / sum_divisor x y) (y.denominator / sum_divisor x y) p of_b low one

total_right : (x y : Fraction) → 0 < x.denominator / sum_divisor x y → y.denominator / sum_divisor x y ∣ y.denominator → gcd (unsigned_abs y.numerator) y.denominator ≡ 1 → gcd (y.denominator / sum_divisor x y) (x.denominator / sum_divisor x y) ≡ 1 → gcd (unsigned_abs (sum_total x y)) (y.denominator / sum_divisor x y) ≡ 1
unfolding sum_total sum_left sum_right
total_right x y p of_d low one =
    ap (λ (z : ℤ). gcd (unsigned_abs z) (y.denominator / sum_divisor x y)) (+ℤ_comm (x.numerator *ℤ pos (y.denominator / sum_divisor x y)) (y.numerator *ℤ pos (x.denominator / sum_divisor x y)))
    ∙ coprime_left y.numerator x.numerator y.denominator x.denominator (y.denominator / sum_divisor x y) (x.denominator / sum_divisor x y) p of_d low one

-- the sum is in lowest terms
lowest_of_parts : (T g b' d' : ℕ) → 0 < g → 0 < d' → gcd T b' ≡ 1 → gcd T d' ≡ 1 → gcd (T / gcd T g) (b' * (d' * g / gcd T g)) ≡ 1
lowest_of_parts T g b' d' pg pd one_b one_d =
    let k = gcd T g in
    let pk : 0 < k = gcd_pos_right T g pg in
    let u_of_T : T / k ∣ T = subst (λ (n : ℕ). T / k ∣ n) (div-mul_cancel k (gcd_dvd_left T g)) (dvd-mul_right (T / k) k) in
    let split : d' * g / k ≡ d' * (g / k) = mul-div_assoc k d' (gcd_dvd_right T g) in
    let with_b : gcd b' (T / k) ≡ 1 = gcd_comm b' (T / k) ∙ coprime_of_dvd T b' (T / k) one_b u_of_T in
    let with_d : gcd d' (T / k) ≡ 1 = gcd_comm d' (T / k) ∙ coprime_of_dvd T d' (T / k) one_d u_of_T in
    let with_g : gcd (g / k) (T / k) ≡ 1 = gcd_comm (g / k) (T / k) ∙ coprime_of_div T g pk in
    let pgk : 0 < g / k = pos_of_quotient g k pg pk (gcd_dvd_right T g) in
    let tail : gcd (d' * (g / k)) (T / k) ≡ 1 = coprime_of_mul d' (g / k) (T / k) with_d with_g in
    let all : gcd (b' * (d' * (g / k))) (T / k) ≡ 1 = coprime_of_mul b' (d' * (g / k)) (T / k) with_b tail in
    gcd_comm (T / k) (b' * (d' * g / k)) ∙ ap (λ (n : ℕ). gcd (b' * n) (T / k)) split ∙ all

pub common_pos : (x y : Fraction) → 0 < sum_divisor x y → 0 < sum_common x y
unfolding sum_common
common_pos x y p = gcd_pos_right (unsigned_abs (sum_total x y)) (sum_divisor x y) p

lowest_of_common : (x y : Fraction) (b' d' : ℕ) → 0 < sum_divisor x y → 0 < d' → gcd (unsigned_abs (sum_total x y)) b' ≡ 1 → gcd (unsigned_abs (sum_total x y)) d' ≡ 1 → gcd (unsigned_abs (sum_total x y) / sum_common x y) (b' * (d' * sum_divisor x y / sum_common x y)) ≡ 1
unfolding sum_common
lowest_of_common x y b' d' pg pd one_b one_d = lowest_of_parts (unsigned_abs (sum_total x y)) (sum_divisor x y) b' d' pg pd one_b one_d

pub sum_is_lowest : (x y : Fraction) → IsLowest x → IsLowest y → IsLowest (sum_value x y)
unfolding sum_value sum_below
sum_is_lowest x y p q =
    let a = x.numerator in
    let b = x.denominator in
    let c = y.numerator in
    let d = y.denominator in
    let g = sum_divisor x y in
    let T = sum_total x y in
    let pg : 0 < g = divisor_pos x y p in
    let eb : b / g * g ≡ b = div-mul_cancel g (divisor_dvd_left x y) in
    let ed : d / g * g ≡ d = div-mul_cancel g (divisor_dvd_right x y) in
    let pb : 0 < b / g = pos_of_quotient b g p.positive pg (divisor_dvd_left x y) in
    let pd : 0 < d / g = pos_of_quotient d g q.positive pg (divisor_dvd_right x y) in
    let of_b : b / g ∣ b = subst (λ (n : ℕ). b / g ∣ n) eb (dvd-mul_right (b / g) g) in
    let of_d : d / g ∣ d = subst (λ (n : ℕ). d / g ∣ n) ed (dvd-mul_right (d / g) g) in
    let apart : gcd (b / g) (d / g) ≡ 1 = divisors_apart x y p in
    let one_b : gcd (unsigned_abs T) (b / g) ≡ 1 = total_left x y pd of_b p.coprime apart in
    let one_d : gcd (unsigned_abs T) (d / g) ≡ 1 = total_right x y pb of_d q.coprime (gcd_comm (d / g) (b / g) ∙ apart) in
    let k = sum_common x y in
    let pk : 0 < k = common_pos x y pg in
    record {
      positive = mul-pos pb (pos_of_quotient d k q.positive pk (common_dvd_right x y));
      coprime =
          ap (λ (n : ℕ). gcd n (b / g * (d / k))) (unsigned_abs-int_div T k)
          ∙ ap (λ (n : ℕ). gcd (unsigned_abs T / k) (b / g * (n / k))) (sym ed)
          ∙ lowest_of_common x y (b / g) (d / g) pg pd one_b one_d;
    }
