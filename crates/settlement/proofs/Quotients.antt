-- Quotients rounded up and down.
use Rattle.std.proofs.Common.{◌≡◌, ℕ, ◌+◌, ◌*◌, ◌/◌, ◌<◌, ◌≤◌, ◌≤ℤ◌, ℤ, pos, negsuc, arith}
use Rattle.std.specs.Int.{div_ceil}
use Rattle.std.proofs.Math.Nat.{div-mul-le_self, le-div_iff_mul-le, div-one, mul-le-mul_right, lt_of_mul-lt-mul_right}
use Rattle.std.proofs.lemmas.Int.{ints}
use Rattle.std.proofs.lemmas.Grind.{div_ceil_times}
use Rattle.exact_num.specs.Fraction.{Fraction, AtMost, plain_product, whole}
use Rattle.form.specs.declared.limits.TheConstants.{MAX_QUANTITY}
use Rattle.form.specs.declared.orders.Side.TheVariants.{Buy, Sell}
use Rattle.form.specs.Vector.{positive_part}
use Rattle.settlement.specs.Premium.{IsRoundedUp, IsRoundedDown, PremiumsAreRounded, WholePremiumsAreProducts}

-- ---- rounded up, and down
pub ceil_least : (n d k : ℕ) → 0 < d → n ≤ k * d → div_ceil n d ≤ k
ceil_least n d k some le =
    let times = div_ceil_times n d some in
    let below : div_ceil n d * d < (k + 1) * d = omega (arith, times.1) in
    let lt : div_ceil n d < k + 1 = lt_of_mul-lt-mul_right d below in
    omega arith

pub floor_greatest : (n d k : ℕ) → 0 < d → k * d ≤ n → k ≤ n / d
floor_greatest n d k some le = (le-div_iff_mul-le some).1 le

-- the order of n p / d and k, in whole numbers
pub above : (n p d k : ℕ) → n * p ≤ k * d → AtMost (plain_product (record { numerator = pos n; denominator = d }) (whole (pos p))) (whole (pos k))
above n p d k le = omega (arith, ints)

pub above_back : (n p d k : ℕ) → AtMost (plain_product (record { numerator = pos n; denominator = d }) (whole (pos p))) (whole (pos k)) → n * p ≤ k * d
above_back n p d k le = omega (arith, ints)

below : (n p d k : ℕ) → k * d ≤ n * p → AtMost (whole (pos k)) (plain_product (record { numerator = pos n; denominator = d }) (whole (pos p)))
below n p d k le = omega (arith, ints)

below_back : (n p d k : ℕ) → AtMost (whole (pos k)) (plain_product (record { numerator = pos n; denominator = d }) (whole (pos p))) → k * d ≤ n * p
below_back n p d k le = omega (arith, ints)

rounded : (x : ℤ) (d p : ℕ) → 0 < d → pos 0 ≤ℤ x
    → IsRoundedUp (plain_product (record { numerator = x; denominator = d }) (whole (pos p))) (div_ceil (positive_part x * p) d)
    × IsRoundedDown (plain_product (record { numerator = x; denominator = d }) (whole (pos p))) (positive_part x * p / d)
rounded (negsuc n) d p some not_below = absurd (omega (arith, ints))
rounded (pos n) d p some not_below = (
  record {
    not_below = above n p d _ (div_ceil_times (n * p) d some).0;
    least = λ k le. ceil_least (n * p) d k some (above_back n p d k le);
  },
  record {
    not_above = below n p d _ (div-mul-le_self (n * p) d);
    greatest = λ k le. floor_greatest (n * p) d k some (below_back n p d k le);
  },
)

pub premiums_are_rounded : PremiumsAreRounded
premiums_are_rounded fill price defined not_below = rounded fill.numerator fill.denominator price defined not_below

-- ---- whole fills
pub whole_premiums_are_products : WholePremiumsAreProducts
whole_premiums_are_products Buy fill price = grind arith
whole_premiums_are_products Sell fill price = div-one (fill * price)

-- ---- within the limits
-- what is at most a whole number stays so as it is rounded
pub up_fits : (x : ℤ) (n d p top : ℕ) → 0 < d → n ≡ positive_part x → AtMost (plain_product (record { numerator = x; denominator = d }) (whole (pos p))) (whole (pos top)) → pos 0 ≤ℤ x
    → div_ceil (n * p) d ≤ top
up_fits (pos x) n d p top some is le not_below = rw is (ceil_least (x * p) d top some (above_back x p d top le))
up_fits (negsuc x) n d p top some is le not_below = absurd (omega (arith, ints))

pub down_fits : (n d top : ℕ) → div_ceil n d ≤ top → n / d ≤ top
down_fits n d top le = omega arith

-- so many options at so many ticks
pub premium_fits : (x : ℤ) (d p : ℕ) → pos 0 ≤ℤ x → AtMost (record { numerator = x; denominator = d }) (whole (pos MAX_QUANTITY))
    → AtMost (plain_product (record { numerator = x; denominator = d }) (whole (pos p))) (whole (pos (MAX_QUANTITY * p)))
premium_fits (pos n) d p not_below le =
    let few : n ≤ MAX_QUANTITY * d = omega (arith, ints) in
    above n p d (MAX_QUANTITY * p) (omega (arith, mul-le-mul_right p few))
premium_fits (negsuc n) d p not_below le = absurd (omega (arith, ints))

pub at_most_more : (x : Fraction) (a b : ℕ) → a ≤ b → AtMost x (whole (pos a)) → AtMost x (whole (pos b))
at_most_more x a b le h =
    let more = mul-le-mul_right x.denominator le in
    omega (arith, ints)
