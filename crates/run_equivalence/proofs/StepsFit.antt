-- A step on fractions that stand for whole numbers fits where those, and what is made of them, do.
use Rattle.std.proofs.Common.{◌≡◌, ◌≢◌, ℕ, ◌*◌, ◌/◌, ◌<◌, ◌≤◌, ℤ, pos, negsuc, ◌+ℤ◌, ◌*ℤ◌, unsigned_abs, arith, refl, sym, ◌∙◌, ap, subst, true, [], ◌∷◌}
use Rattle.std.specs.Prelude.{Ok, nat_le}
use Rattle.std.specs.Int.{◌∣◌}
use Rattle.std.proofs.lemmas.Int.{ints}
use Rattle.std.proofs.lemmas.Bool.{le-leb}
use Rattle.std.proofs.Math.Nat.{div-mul_cancel, mul-div_cancel', dvd-mul_right, div-le_self, eq_of_mul-eq-mul_left, mul-pos, mul-le-mul_left, pos_of_ne-zero}
use Rattle.arithmetic.specs.Gcd.{gcd}
use Rattle.arithmetic.proofs.GcdLaws.{gcd_comm, gcd_pos_left, coprime_of_div, dvd_of_coprime, pos_of_quotient}
use Rattle.arithmetic.proofs.Ring.{ring, V, ◌⊗◌, ◌⊕◌}
use Rattle.exact_num.specs.Fraction.{Fraction, IsLowest, reduced}
use Rattle.exact_num.specs.CommonDenominator.{IsRatio}
use Rattle.exact_num.specs.Fits.{size_fits, sum_divisor, sum_left, sum_right, sum_total, sum_common, sum_below, sum_value, sum_fits, add_of, product_above, product_below, product_value, product_fits, mul_of, div_of, inverse, signed_by}
use Rattle.exact_num.proofs.Values.{sum_is, sum_is_lowest, divisor_dvd_left, divisor_dvd_right, divisor_pos}
use Rattle.exact_num.proofs.ProductValues.{product_is, product_is_lowest, inverse_is_lowest}
use Rattle.exact_num.proofs.Fractions.{is_ratio_sum}
use Rattle.run_equivalence.specs.WholeLaws.{SumsFit, ProductsFit, QuotientsFit}
use Rattle.run_equivalence.proofs.Multiples.{multiple_of, parts_at_most, number_size, is_reduced, ratio_moved}

-- ---- the sum: the least common multiple of two denominators divides each common multiple
pub record CommonFactor (m k b' d' : ℕ) : Type 0 where
  pub factor : ℕ
  pub left : m ≡ d' * factor
  pub right : k ≡ b' * factor

common_factor : (b d m k g b' d' : ℕ) → 0 < g → 0 < d' → b' * g ≡ b → d' * g ≡ d → gcd d' b' ≡ 1 → b * m ≡ d * k → CommonFactor m k b' d'
common_factor b d m k g b' d' pg pd eb ed one h =
    let cross : g * (b' * m) ≡ g * (d' * k) = omega (arith, ap (λ w. w * m) eb, ap (λ w. w * k) ed, h) in
    let same : b' * m ≡ d' * k = eq_of_mul-eq-mul_left g pg _ _ cross in
    let divides : d' ∣ m = dvd_of_coprime d' b' m one (subst (λ (w : ℕ). d' ∣ w) (sym same) (dvd-mul_right d' k)) in
    let L : ℕ = m / d' in
    let back : d' * L ≡ m = mul-div_cancel' d' divides in
    let cross' : d' * k ≡ d' * (b' * L) = omega (arith, same, ap (λ w. b' * w) back) in
    record { factor = L; left = sym back; right = eq_of_mul-eq-mul_left d' pd _ _ cross' }

-- the parts that a sum names, by what stands over a common multiple
pub record SumParts (x y : Fraction) (a c : ℤ) (M : ℕ) : Type 0 where
  pub factor : ℕ
  pub positive : 0 < factor
  pub left : a ≡ sum_left x y *ℤ pos factor
  pub right : c ≡ sum_right x y *ℤ pos factor
  pub total : a +ℤ c ≡ sum_total x y *ℤ pos factor
  pub below : sum_below x y ≤ M

left_factor : (x y : Fraction) (m L : ℕ) → m ≡ y.denominator / sum_divisor x y * L → x.numerator *ℤ pos m ≡ sum_left x y *ℤ pos L
unfolding sum_left
left_factor x y m L e =
    let d' : ℕ = y.denominator / sum_divisor x y in
    ap (λ (w : ℕ). x.numerator *ℤ pos w) e ∙ ring (x.numerator ∷ pos d' ∷ pos L ∷ []) (V 0 ⊗ (V 1 ⊗ V 2)) ((V 0 ⊗ V 1) ⊗ V 2) refl

right_factor : (x y : Fraction) (k L : ℕ) → k ≡ x.denominator / sum_divisor x y * L → y.numerator *ℤ pos k ≡ sum_right x y *ℤ pos L
unfolding sum_right
right_factor x y k L e =
    let b' : ℕ = x.denominator / sum_divisor x y in
    ap (λ (w : ℕ). y.numerator *ℤ pos w) e ∙ ring (y.numerator ∷ pos b' ∷ pos L ∷ []) (V 0 ⊗ (V 1 ⊗ V 2)) ((V 0 ⊗ V 1) ⊗ V 2) refl

total_factor : (x y : Fraction) (a c : ℤ) (L : ℕ) → a ≡ sum_left x y *ℤ pos L → c ≡ sum_right x y *ℤ pos L → a +ℤ c ≡ sum_total x y *ℤ pos L
unfolding sum_total
total_factor x y a c L e f =
    ap (λ (z : ℤ). z +ℤ c) e ∙ ap (λ (z : ℤ). sum_left x y *ℤ pos L +ℤ z) f
    ∙ ring (sum_left x y ∷ sum_right x y ∷ pos L ∷ []) (V 0 ⊗ V 2 ⊕ V 1 ⊗ V 2) ((V 0 ⊕ V 1) ⊗ V 2) refl

below_at_most : (x y : Fraction) (M L : ℕ) → 0 < L → M ≡ x.denominator / sum_divisor x y * y.denominator * L → sum_below x y ≤ M
unfolding sum_below
below_at_most x y M L p e =
    small (x.denominator / sum_divisor x y) (y.denominator / sum_common x y) y.denominator L M (div-le_self y.denominator (sum_common x y)) p e
  where
    small : (b q d L M : ℕ) → q ≤ d → 0 < L → M ≡ b * d * L → b * q ≤ M
    small b q d L M h p e =
        let one : b * q ≤ b * d = mul-le-mul_left b h in
        let more : b * d * 1 ≤ b * d * L = mul-le-mul_left (b * d) p in
        omega (arith, one, more, e)

divisors_apart : (x y : Fraction) → IsLowest x → gcd (y.denominator / sum_divisor x y) (x.denominator / sum_divisor x y) ≡ 1
unfolding sum_divisor
divisors_apart x y p = gcd_comm (y.denominator / gcd x.denominator y.denominator) (x.denominator / gcd x.denominator y.denominator) ∙ coprime_of_div x.denominator y.denominator (gcd_pos_left x.denominator y.denominator p.positive)

sum_parts : (x y : Fraction) (a c : ℤ) (M : ℕ) → IsLowest x → IsLowest y → 0 < M → IsRatio x a M → IsRatio y c M → SumParts x y a c M
sum_parts x y a c M lx ly p rx ry =
    let b = x.denominator in
    let d = y.denominator in
    let g = sum_divisor x y in
    let mx = multiple_of x a M lx rx in
    let my = multiple_of y c M ly ry in
    let pg : 0 < g = divisor_pos x y lx in
    let pd : 0 < d / g = pos_of_quotient d g ly.positive pg (divisor_dvd_right x y) in
    let eb : b / g * g ≡ b = div-mul_cancel g (divisor_dvd_left x y) in
    let ed : d / g * g ≡ d = div-mul_cancel g (divisor_dvd_right x y) in
    let f = common_factor b d mx.by my.by g (b / g) (d / g) pg pd eb ed (divisors_apart x y lx) (sym mx.below ∙ my.below) in
    let L : ℕ = f.factor in
    let left : a ≡ sum_left x y *ℤ pos L = mx.above ∙ left_factor x y mx.by L f.left in
    let right : c ≡ sum_right x y *ℤ pos L = my.above ∙ right_factor x y my.by L f.right in
    let whole : M ≡ b / g * d * L = my.below ∙ ap (λ w. d * w) f.right ∙ omega arith in
    let pL : 0 < L = pos_of_ne-zero (λ e. let gone : M ≡ b / g * d * 0 = whole ∙ ap (λ w. b / g * d * w) e in omega (arith, gone, p)) in
    record { factor = L; positive = pL; left = left; right = right; total = total_factor x y a c L left right; below = below_at_most x y M L pL whole }

sum_fits_at : (limit : ℕ) (x y : Fraction) → unsigned_abs (sum_left x y) ≤ limit → unsigned_abs (sum_right x y) ≤ limit → unsigned_abs (sum_total x y) ≤ limit → sum_below x y ≤ limit → sum_fits limit x y ≡ true
unfolding sum_fits
sum_fits_at limit x y l r t b =
    let left_fits : size_fits limit (sum_left x y) ≡ true = le-leb _ limit l in
    let right_fits : size_fits limit (sum_right x y) ≡ true = le-leb _ limit r in
    let total_fits : size_fits limit (sum_total x y) ≡ true = le-leb _ limit t in
    let below_fits : nat_le (sum_below x y) limit ≡ true = le-leb _ limit b in
    rw (left_fits, right_fits, total_fits, below_fits) refl

at_fitting_sum : (limit : ℕ) (x y s : Fraction) → sum_fits limit x y ≡ true → sum_value x y ≡ s → add_of limit x y ≡ Ok s
unfolding add_of
at_fitting_sum limit x y s h e = rw h (ap Ok e)

pub sums_fit : SumsFit
sums_fit limit M x y a c lx ly p rx ry la lc lt lM =
    let s = sum_parts x y a c M lx ly p rx ry in
    let fits = sum_fits_at limit x y (number_size _ a s.factor limit s.left s.positive la) (number_size _ c s.factor limit s.right s.positive lc) (number_size _ (a +ℤ c) s.factor limit s.total s.positive lt) (omega (arith, s.below, lM)) in
    at_fitting_sum limit x y (reduced (a +ℤ c) M) fits
    (is_reduced (sum_value x y) (a +ℤ c) M (sum_is_lowest x y lx ly) p (is_ratio_sum x y (sum_value x y) a c M lx.positive ly.positive (sum_is x y) rx ry))

-- ---- the product
product_ratio : (x y : Fraction) (a c : ℤ) (D E : ℕ) → IsLowest x → IsLowest y → IsRatio x a D → IsRatio y c E → IsRatio (product_value x y) (a *ℤ c) (D * E)
product_ratio x y a c D E lx ly rx ry =
    let mx = multiple_of x a D lx rx in
    let my = multiple_of y c E ly ry in
    let v = product_value x y in
    let m : ℕ = mx.by in
    let k : ℕ = my.by in
    let b : ℕ = x.denominator in
    let d : ℕ = y.denominator in
    ap (λ (w : ℕ). v.numerator *ℤ pos (w * E)) mx.below ∙ ap (λ (w : ℕ). v.numerator *ℤ pos (b * m * w)) my.below
    ∙ ring (v.numerator ∷ pos b ∷ pos m ∷ pos d ∷ pos k ∷ []) (V 0 ⊗ ((V 1 ⊗ V 2) ⊗ (V 3 ⊗ V 4))) ((V 0 ⊗ (V 1 ⊗ V 3)) ⊗ (V 2 ⊗ V 4)) refl
    ∙ ap (λ (z : ℤ). z *ℤ pos (m * k)) (product_is x y)
    ∙ ring (x.numerator ∷ y.numerator ∷ pos v.denominator ∷ pos m ∷ pos k ∷ []) (((V 0 ⊗ V 1) ⊗ V 2) ⊗ (V 3 ⊗ V 4)) (((V 0 ⊗ V 3) ⊗ (V 1 ⊗ V 4)) ⊗ V 2) refl
    ∙ ap (λ (z : ℤ). (z *ℤ (y.numerator *ℤ pos k)) *ℤ pos v.denominator) (sym mx.above)
    ∙ ap (λ (z : ℤ). (a *ℤ z) *ℤ pos v.denominator) (sym my.above)

-- a product that stands for numbers within the limit fits
product_fits_at : (limit : ℕ) (x y : Fraction) (A : ℤ) (M : ℕ) → IsLowest x → IsLowest y → 0 < M → IsRatio (product_value x y) A M → unsigned_abs A ≤ limit → M ≤ limit → product_fits limit x y ≡ true
unfolding product_fits product_value
product_fits_at limit x y A M lx ly p r lA lM =
    let parts = parts_at_most (product_value x y) A M limit (product_is_lowest x y lx ly) r p lA lM in
    let above_fits : size_fits limit (product_above x y) ≡ true = le-leb _ limit parts.0 in
    let below_fits : nat_le (product_below x y) limit ≡ true = le-leb _ limit parts.1 in
    rw (above_fits, below_fits) refl

at_fitting_product : (limit : ℕ) (x y s : Fraction) → product_fits limit x y ≡ true → product_value x y ≡ s → mul_of limit x y ≡ Ok s
unfolding mul_of
at_fitting_product limit x y s h e = rw h (ap Ok e)

pub products_fit : ProductsFit
products_fit limit D E M x y a c b lx ly pD pE pM rx ry same lb lM =
    let v = product_value x y in
    let r : IsRatio v b M = ratio_moved v (a *ℤ c) b (D * E) M (mul-pos pD pE) same (product_ratio x y a c D E lx ly rx ry) in
    at_fitting_product limit x y (reduced b M) (product_fits_at limit x y b M lx ly pM r lb lM) (is_reduced v b M (product_is_lowest x y lx ly) pM r)

-- ---- the quotient
inverse_ratio : (n : ℤ) (e D c : ℕ) → 0 < c → 0 < e → n *ℤ pos D ≡ pos c *ℤ pos e → signed_by n (pos e) *ℤ pos c ≡ pos D *ℤ pos (unsigned_abs n)
inverse_ratio (pos n) e D c pc pe h = omega (arith, ints, h)
inverse_ratio (negsuc n) e D c pc pe h = absurd (let p : 0 < c * e = mul-pos pc pe in omega (arith, ints, h, p))

not_zero : (n : ℤ) (e D c : ℕ) → 0 < c → 0 < e → n *ℤ pos D ≡ pos c *ℤ pos e → n ≢ pos 0
not_zero n e D c pc pe h z =
    let p : 0 < c * e = mul-pos pc pe in
    let gone : pos 0 *ℤ pos D ≡ pos c *ℤ pos e = ap (λ w. w *ℤ pos D) (sym z) ∙ h in
    omega (arith, ints, gone, p)

inverse_is : (y : Fraction) (D c : ℕ) → 0 < c → 0 < y.denominator → IsRatio y (pos c) D → IsRatio (inverse y) (pos D) c
unfolding inverse
inverse_is y D c pc pe h = inverse_ratio y.numerator y.denominator D c pc pe h

at_fitting_quotient : (limit : ℕ) (x y s : Fraction) → product_fits limit x (inverse y) ≡ true → product_value x (inverse y) ≡ s → div_of limit x y ≡ Ok s
unfolding div_of
at_fitting_quotient limit x y s h e = rw h (ap Ok e)

pub quotients_fit : QuotientsFit
quotients_fit limit D c x y a lx ly pD pc rx ry la lc =
    let ne = not_zero y.numerator y.denominator D c pc ly.positive ry in
    let inv = inverse_is_lowest y ly ne in
    let v = product_value x (inverse y) in
    let r : IsRatio v (a *ℤ pos D) (D * c) = product_ratio x (inverse y) a (pos D) D c lx inv rx (inverse_is y D c pc ly.positive ry) in
    let q : IsRatio v a c = ratio_moved v (a *ℤ pos D) a (D * c) c (mul-pos pD pc) (ring (a ∷ pos D ∷ pos c ∷ []) ((V 0 ⊗ V 1) ⊗ V 2) (V 0 ⊗ (V 1 ⊗ V 2)) refl) r in
    at_fitting_quotient limit x y (reduced a c) (product_fits_at limit x (inverse y) a c lx inv pc q la lc)
    (is_reduced v a c (product_is_lowest x (inverse y) lx inv) pc q)
