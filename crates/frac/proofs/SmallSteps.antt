-- The steps of sums and products of small fractions.
use Rattle.std.proofs.Common.{◌≡◌, ℕ, ◌*◌, ◌/◌, ◌<◌, ◌≤◌, ◌^◌, true, ℤ, pos, negsuc, ◌*ℤ◌, ◌+ℤ◌, ◌-ℤ◌, arith, refl, ap, to_z-of_z}
use Rattle.std.specs.Prelude.{Some, unsigned_abs, int_div}
use Rattle.std.proofs.lemmas.Bool.{le-leb}
use Rattle.std.proofs.lemmas.Int.{ints, unsigned_abs-mul, fits_signed_from_abs, to_z_pos}
use Rattle.std.proofs.Math.Nat.{div-le_self, mul-le-mul}
use mir.Val.{SFits, to_z, of_z}
use mir.Syntax.{w64, w128}
use Rattle.arithmetic.proofs.Integers.{unsigned_abs-neg}
use Rattle.arithmetic.proofs.Quotients.{unsigned_abs-int_div}
use Rattle.arithmetic.specs.Gcd.{gcd}
use Rattle.exact_num.specs.Fraction.{Fraction, over, negated}
use Rattle.exact_num.specs.Fits.{sum_divisor, sum_left, sum_right, sum_total, sum_common, sum_below, sum_fits, sum_value, product_above, product_below, product_fits, product_value, sum_within, product_within}
use Rattle.exact_num.specs.Steps.{less_product_within}
use Rattle.frac.specs.Range.{limit, IsSmall}

pub quotient_is_below : (k : ℕ) (n a : ℤ) (g : ℕ) → unsigned_abs n < k → a ≡ int_div n (pos g) → unsigned_abs a < k
quotient_is_below k n a g small e = rw (e, unsigned_abs-int_div n g) (omega (arith, small, div-le_self (unsigned_abs n) g))

-- ---- sizes: of 31 bits, of 62, and of 93
pub short_is_below : (z : ℤ) → SFits w64 z → unsigned_abs z < 2 ^ 127
short_is_below (pos n) h =
    let below : n < 2 ^ 63 = h.sfits in
    omega (arith, below)
short_is_below (negsuc n) h =
    let below : n < 2 ^ 63 = h.sfits in
    omega (arith, below)

pub product_is_short : (a b : ℤ) → unsigned_abs a < 2 ^ 31 → unsigned_abs b < 2 ^ 31 → unsigned_abs (a *ℤ b) < 2 ^ 62
product_is_short a b p q =
    let first : unsigned_abs a ≤ 2147483647 = omega (arith, p) in
    let second : unsigned_abs b ≤ 2147483647 = omega (arith, q) in
    rw (unsigned_abs-mul a b) (omega (arith, mul-le-mul first second))

pub natural_is_short : (a b m n : ℕ) → a ≤ m → b ≤ n → m < 2 ^ 31 → n < 2 ^ 31 → a * b < 2 ^ 62
natural_is_short a b m n p q left right =
    let first : a ≤ 2147483647 = omega (arith, p, left) in
    let second : b ≤ 2147483647 = omega (arith, q, right) in
    omega (arith, mul-le-mul first second)

natural_is_long : (a b : ℕ) → a < 2 ^ 31 → b < 2 ^ 62 → a * b < 2 ^ 93
natural_is_long a b p q =
    let first : a ≤ 2147483647 = omega (arith, p) in
    let second : b ≤ 4611686018427387903 = omega (arith, q) in
    omega (arith, mul-le-mul first second)

product_is_long : (a b : ℤ) → unsigned_abs a < 2 ^ 62 → unsigned_abs b < 2 ^ 31 → unsigned_abs (a *ℤ b) < 2 ^ 93
product_is_long a b p q =
    let first : unsigned_abs a ≤ 4611686018427387903 = omega (arith, p) in
    let second : unsigned_abs b ≤ 2147483647 = omega (arith, q) in
    rw (unsigned_abs-mul a b) (omega (arith, mul-le-mul first second))

product_is_long_too : (a b : ℤ) → unsigned_abs a < 2 ^ 31 → unsigned_abs b < 2 ^ 62 → unsigned_abs (a *ℤ b) < 2 ^ 93
product_is_long_too a b p q = rw (unsigned_abs-mul a b) (natural_is_long (unsigned_abs a) (unsigned_abs b) p q)

-- ---- the steps are within the limit
-- the sum of a small fraction and one with parts of 62 bits
long_sums_fit : (x y : Fraction) → IsSmall x → unsigned_abs y.numerator < 2 ^ 62 → y.denominator < 2 ^ 62 → sum_fits limit x y ≡ true
unfolding sum_fits sum_left sum_right sum_total sum_below
long_sums_fit x y p above below =
    let g = sum_divisor x y in
    let h = sum_common x y in
    let left = product_is_long_too x.numerator (pos (y.denominator / g)) p.0 (omega (arith, below, div-le_self y.denominator g)) in
    let right = product_is_long y.numerator (pos (x.denominator / g)) above (omega (arith, p.1, div-le_self x.denominator g)) in
    let total : unsigned_abs (sum_left x y +ℤ sum_right x y) < 2 ^ 94 = omega (arith, ints, left, right) in
    let low = natural_is_long (x.denominator / g) (y.denominator / h) (omega (arith, p.1, div-le_self x.denominator g)) (omega (arith, below, div-le_self y.denominator h)) in
    rw (
      le-leb (unsigned_abs (sum_left x y)) limit (omega (arith, left)),
      le-leb (unsigned_abs (sum_right x y)) limit (omega (arith, right)),
      le-leb (unsigned_abs (sum_total x y)) limit (omega (arith, total)),
      le-leb (sum_below x y) limit (omega (arith, low)),
    ) refl

pub small_sum_answers : (x y s : Fraction) → IsSmall x → IsSmall y → s ≡ sum_value x y → Some s ≡ sum_within limit x y
small_sum_answers x y s p q e = rw (long_sums_fit x y p (omega (arith, q.0)) (omega (arith, q.1))) (ap Some e)

small_product_sizes : (x y : Fraction) → IsSmall x → IsSmall y → (unsigned_abs (product_above x y) < 2 ^ 62) × (product_below x y < 2 ^ 62)
unfolding product_above product_below
small_product_sizes x y p q =
    let g = gcd (unsigned_abs x.numerator) y.denominator in
    let h = gcd (unsigned_abs y.numerator) x.denominator in (
      product_is_short (int_div x.numerator (pos g)) (int_div y.numerator (pos h)) (quotient_is_below (2 ^ 31) x.numerator (int_div x.numerator (pos g)) g p.0 refl)
          (quotient_is_below (2 ^ 31) y.numerator (int_div y.numerator (pos h)) h q.0 refl),
      natural_is_short (x.denominator / h) (y.denominator / g) x.denominator y.denominator (div-le_self x.denominator h) (div-le_self y.denominator g) p.1 q.1,
    )

small_products_fit : (x y : Fraction) → IsSmall x → IsSmall y → product_fits limit x y ≡ true
unfolding product_fits
small_products_fit x y p q =
    let sizes = small_product_sizes x y p q in
    rw (le-leb (unsigned_abs (product_above x y)) limit (omega (arith, sizes.0)), le-leb (product_below x y) limit (omega (arith, sizes.1))) refl

pub small_product_answers : (x y s : Fraction) → IsSmall x → IsSmall y → s ≡ product_value x y → Some s ≡ product_within limit x y
small_product_answers x y s p q e = rw (small_products_fit x y p q) (ap Some e)

less_fits : (x y z : Fraction) → IsSmall x → IsSmall y → IsSmall z → sum_fits limit x (negated (product_value y z)) ≡ true
unfolding product_value
less_fits x y z p q r =
    let sizes = small_product_sizes y z q r in
    long_sums_fit x (negated (product_value y z)) p (rw (unsigned_abs-neg (product_above y z)) sizes.0) sizes.1

pub small_less_answers : (x y z s : Fraction) → IsSmall x → IsSmall y → IsSmall z → s ≡ sum_value x (negated (product_value y z)) → Some s ≡ less_product_within limit x y z
small_less_answers x y z s p q r e = rw (small_products_fit y z q r, less_fits x y z p q r) (ap Some e)

-- ---- the numbers that the code makes on the way
-- a numerator of 31 bits stays what it is in 64
abbrev InShort : ℤ → Type 0
InShort m = to_z w64 (of_z w64 (to_z w128 (of_z w128 m))) ≡ m

in_short : (m : ℤ) → unsigned_abs m < 2 ^ 31 → InShort m
in_short m p =
    let wide : SFits w128 m = fits_signed_from_abs w128 m (omega (arith, p)) in
    let short : SFits w64 m = fits_signed_from_abs w64 m (omega (arith, p)) in
    rw (to_z-of_z wide, to_z-of_z short) refl

-- of a product
pub record ProductFits (m n : ℤ) : Type 0 where
  pub left : InShort m
  pub right : InShort n
  pub short : SFits w64 (m *ℤ n)
  pub wide : SFits w128 (m *ℤ n)

pub numerators_fit : (m n : ℤ) → unsigned_abs m < 2 ^ 31 → unsigned_abs n < 2 ^ 31 → ProductFits m n
numerators_fit m n p q =
    let size = product_is_short m n p q in
    record {
      left = in_short m p;
      right = in_short n q;
      short = fits_signed_from_abs w64 (m *ℤ n) (omega (arith, size));
      wide = fits_signed_from_abs w128 (m *ℤ n) (omega (arith, size));
    }

-- of the sum of m / b and n / d
pub record SumFits (m n : ℤ) (b d : ℕ) : Type 0 where
  pub left_above : InShort m
  pub right_above : InShort n
  pub left_below : to_z w64 b ≡ pos b
  pub right_below : to_z w64 d ≡ pos d
  pub left : SFits w64 (m *ℤ pos d)
  pub right : SFits w64 (n *ℤ pos b)
  pub total : SFits w64 (m *ℤ pos d +ℤ n *ℤ pos b)
  pub size : unsigned_abs (m *ℤ pos d +ℤ n *ℤ pos b) < 2 ^ 63

pub sums_fit : (m n : ℤ) (b d : ℕ) → IsSmall (over m b) → IsSmall (over n d) → SumFits m n b d
sums_fit m n b d p q =
    let left = product_is_short m (pos d) p.0 q.1 in
    let right = product_is_short n (pos b) q.0 p.1 in
    let total : unsigned_abs (m *ℤ pos d +ℤ n *ℤ pos b) < 2 ^ 63 = omega (arith, ints, left, right) in
    record {
      left_above = in_short m p.0;
      right_above = in_short n q.0;
      left_below = to_z_pos w64 b (omega (arith, p.1));
      right_below = to_z_pos w64 d (omega (arith, q.1));
      left = fits_signed_from_abs w64 (m *ℤ pos d) (omega (arith, left));
      right = fits_signed_from_abs w64 (n *ℤ pos b) (omega (arith, right));
      total = fits_signed_from_abs w64 (m *ℤ pos d +ℤ n *ℤ pos b) (omega (arith, total));
      size = total;
    }

-- of m / d less a / b, where a is the product of m' and n'
pub record LessFits (m m' n' : ℤ) (d b : ℕ) : Type 0 where
  pub product : ProductFits m' n'
  pub above : SFits w128 m
  pub below : to_z w128 d ≡ pos d
  pub product_below : to_z w128 b ≡ pos b
  pub left : SFits w128 (m *ℤ pos b)
  pub right : SFits w128 ((m' *ℤ n') *ℤ pos d)
  pub total : SFits w128 (m *ℤ pos b -ℤ (m' *ℤ n') *ℤ pos d)
  pub size : unsigned_abs (m *ℤ pos b -ℤ (m' *ℤ n') *ℤ pos d) < 2 ^ 127

pub less_numbers_fit : (x y z : Fraction) → IsSmall x → IsSmall y → IsSmall z → LessFits x.numerator y.numerator z.numerator x.denominator (y.denominator * z.denominator)
less_numbers_fit x y z p q r =
    let m = x.numerator in
    let a = y.numerator *ℤ z.numerator in
    let d = x.denominator in
    let b = y.denominator * z.denominator in
    let low = natural_is_short y.denominator z.denominator y.denominator z.denominator (omega arith) (omega arith) q.1 r.1 in
    let left = product_is_long_too m (pos b) p.0 low in
    let right = product_is_long a (pos d) (product_is_short y.numerator z.numerator q.0 r.0) p.1 in
    let total : unsigned_abs (m *ℤ pos b -ℤ a *ℤ pos d) < 2 ^ 94 = omega (arith, ints, left, right) in
    record {
      product = numerators_fit y.numerator z.numerator q.0 r.0;
      above = fits_signed_from_abs w128 m (omega (arith, p.0));
      below = to_z_pos w128 d (omega (arith, p.1));
      product_below = to_z_pos w128 b (omega (arith, low));
      left = fits_signed_from_abs w128 (m *ℤ pos b) (omega (arith, left));
      right = fits_signed_from_abs w128 (a *ℤ pos d) (omega (arith, right));
      total = fits_signed_from_abs w128 (m *ℤ pos b -ℤ a *ℤ pos d) (omega (arith, total));
      size = omega (arith, total);
    }

pub total_is : (l r : ℤ) → (l -ℤ r) +ℤ r ≡ l
total_is l r = omega (arith, ints)
