-- The bound of the measure at prices 0 fits, for each batch within the limits.
use Rattle.std.proofs.Common.{◌≡◌, ℕ, ◌+◌, ◌*◌, ◌≤◌, Bool, true, false, if◌then◌else◌, List, [], ◌∷◌, length, replicate, ℤ, pos, neg_ℤ, ◌+ℤ◌, ◌*ℤ◌, unsigned_abs, Result, Ok, refl, ap, ◌∙◌, arith}
use Rattle.std.specs.List.{All}
use Rattle.std.proofs.lemmas.Bool.{le-leb}
use Rattle.std.proofs.lemmas.Int.{ints, unsigned_abs-mul}
use Rattle.std.proofs.lemmas.List.Elements.{All-head, All-tail}
use Rattle.std.proofs.lemmas.Nat.{mul-le}
use Rattle.exact_num.specs.declared.misfit.Wide.{Wide}
use Rattle.exact_num.specs.Fits.{after, sub_of}
use Rattle.exact_num.specs.Fraction.{Fraction, whole}
use Rattle.exact_num.specs.Steps.{fold_steps, plus_product}
use Rattle.exact_num.specs.Tests.{is_above_zero}
use Rattle.exact_num.proofs.WholeNumbers.{add-wholes}
use Rattle.frac.specs.Range.{limit}
use Rattle.form.specs.declared.limits.TheConstants.{MAX_PRICE, MAX_QUANTITY}
use Rattle.form.specs.declared.orders.Order.{Order}
use Rattle.form.specs.declared.orders.Side.{Side}
use Rattle.form.specs.declared.orders.Side.TheVariants.{Buy, Sell}
use Rattle.form.specs.Limits.{IsOrderWithin}
use Rattle.form.specs.Payoff.{bundle_of, bundle_payoff}
use Rattle.cert_check.specs.MeasureSums.{add_gain, bound_of, gain_at, has_unit_mass, plus_gain, price_of}
use Rattle.limits.specs.declared.TheConstants.{MAX_PAYOFF}
use Rattle.settlement.proofs.Worth.{plus_fits}
use Rattle.proposals.specs.Judged.{zero_prices}
use Rattle.proposals.proofs.Payoffs.{pays, small_at_zero}

-- how far a limit price and a price at the state are apart at most, and that for the greatest
-- quantity
abbrev MOST_GAIN : ℕ
MOST_GAIN = 1000000000000 + 4000 * MAX_PAYOFF

abbrev MOST_TERM : ℕ
MOST_TERM = 1000000 * MOST_GAIN

-- all the weight is on one settlement
pub unit_mass : (n : ℕ) → has_unit_mass limit (zero_prices n) ≡ Ok true
unit_mass n = rw (plus_fits (pos 0) (pos 1) (pos 1) (omega arith)) refl

-- the price of a bundle
price_is : (n : ℕ) (order : Order) → IsOrderWithin order
    → price_of limit (bundle_of order) (zero_prices n) ≡ Ok (whole (bundle_payoff (bundle_of order) (1 ∷ replicate n 0)))
price_is n order within =
    let z : List ℕ = 1 ∷ replicate n 0 in
    let paid = pays order z within (small_at_zero n) in
    let h = bundle_payoff (bundle_of order) z in
    let one : pos 0 +ℤ (pos 1 *ℤ h) ≡ h = omega (arith, ints) in
    let size = unsigned_abs-mul (pos 1) h in
    let few = paid.small in
    let step = plus_fits (pos 0) (pos 1) h (omega arith) in
    ap (λ r. after (after r (λ h. plus_product limit (whole (pos 0)) (whole (pos 1)) h)) (λ next. Ok next)) paid.fits
    ∙ ap (λ r. after r (λ next. Ok next)) step ∙ ap (λ (d : ℤ). Ok (whole d)) one

-- a step gives a whole number of at most this size
record IsWhole (r : Result Fraction Wide) (bound : ℕ) : Type 0 where
  value : ℤ
  is : r ≡ Ok (whole value)
  small : unsigned_abs value ≤ bound

less_is : (a b : ℤ) → unsigned_abs a + unsigned_abs b ≤ MOST_GAIN → IsWhole (sub_of limit (whole a) (whole b)) MOST_GAIN
less_is a b few =
    let c = neg_ℤ b in
    let size : unsigned_abs (a +ℤ c) ≤ MOST_GAIN = omega (arith, ints) in
    record {
      value = a +ℤ c;
      is = add-wholes limit a c (omega arith) (omega arith) (omega (arith, ints)) ∙ rw (le-leb (unsigned_abs (a +ℤ c)) limit (omega arith)) refl;
      small = size;
    }

gain_is : (side : Side) (price : ℕ) (h : ℤ) → price ≤ MAX_PRICE → unsigned_abs h ≤ 4000 * MAX_PAYOFF → IsWhole (gain_at limit side (whole (pos price)) (whole h)) MOST_GAIN
gain_is Buy price h low few = less_is (pos price) h (omega arith)
gain_is Sell price h low few = less_is h (pos price) (omega arith)

-- a gain above 0 counts for the quantity
plus_gain_is : (t g : ℤ) (q bound : ℕ) → q ≤ MAX_QUANTITY → unsigned_abs g ≤ MOST_GAIN → unsigned_abs t ≤ bound → bound + MOST_TERM ≤ limit
    → IsWhole (plus_gain limit (whole t) q (whole g)) (bound + MOST_TERM)
plus_gain_is t g q bound quantity small low fits = by_test (is_above_zero (whole g))
  where
    most : unsigned_abs (pos q *ℤ g) ≤ MOST_TERM
    most = let size = unsigned_abs-mul (pos q) g in let term = mul-le q (unsigned_abs g) 1000000 MOST_GAIN quantity small in omega arith

    by_test : (b : Bool) → IsWhole (if b then plus_product limit (whole t) (whole (pos q)) (whole g) else Ok (whole t)) (bound + MOST_TERM)
    by_test true = record { value = t +ℤ (pos q *ℤ g); is = plus_fits t (pos q) g (omega (arith, most)); small = omega (arith, ints, most) }
    by_test false = record { value = t; is = refl; small = omega arith }

add_is : (n : ℕ) (order : Order) (t : ℤ) (bound : ℕ) → IsOrderWithin order → unsigned_abs t ≤ bound → bound + MOST_TERM ≤ limit
    → IsWhole (add_gain limit (zero_prices n) (whole t) order) (bound + MOST_TERM)
add_is n order t bound within low fits =
    let h = bundle_payoff (bundle_of order) (1 ∷ replicate n 0) in
    let paid = pays order (1 ∷ replicate n 0) within (small_at_zero n) in
    let gain = gain_is order.side order.price h within.price paid.small in
    let sum = plus_gain_is t gain.value order.quantity bound within.quantity gain.small low fits in
    record { value = sum.value; is = rw (price_is n order within, gain.is) sum.is; small = sum.small }

sums_fit : (n : ℕ) (orders : List Order) (t : ℤ) (bound : ℕ) → All IsOrderWithin orders → unsigned_abs t ≤ bound → bound + length orders * MOST_TERM ≤ limit
    → IsWhole (fold_steps (add_gain limit (zero_prices n)) (whole t) orders) (bound + length orders * MOST_TERM)
sums_fit n [] t bound within low fits = record { value = t; is = refl; small = omega arith }
sums_fit n (o ∷ orders) t bound within low fits =
    let first = add_is n o t bound (All-head IsOrderWithin o orders within) low (omega arith) in
    let rest = sums_fit n orders first.value (bound + MOST_TERM) (All-tail IsOrderWithin o orders within) first.small (omega arith) in
    let few = rest.small in
    record { value = rest.value; is = rw first.is rest.is; small = omega arith }

-- the bound
pub record HasBound (n : ℕ) (orders : List Order) : Type 0 where
  pub bound : Fraction
  pub is : bound_of limit orders (zero_prices n) ≡ Ok bound

pub bound_fits : (n : ℕ) (orders : List Order) → All IsOrderWithin orders → length orders ≤ 256 → HasBound n orders
bound_fits n orders within few =
    let sum = sums_fit n orders (pos 0) 0 within (omega arith) (omega arith) in
    record { bound = whole sum.value; is = sum.is }
