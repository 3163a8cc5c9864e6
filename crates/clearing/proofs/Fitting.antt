-- The sums of the verdict on whole fills fit.
use Rattle.std.proofs.Common.{◌≡◌, refl, ℕ, ◌+◌, ◌*◌, ◌≤◌, Bool, true, false, if◌then◌else◌, List, [], ◌∷◌, length, ℤ, pos, neg_ℤ, ◌+ℤ◌, ◌*ℤ◌, unsigned_abs, All, Result, Ok, Err, arith}
use Rattle.std.specs.List.{zip}
use Rattle.std.specs.Prelude.{int_le, ◌&&◌}
use Rattle.std.proofs.lemmas.Bool.{le-leb}
use Rattle.std.proofs.lemmas.Int.{ints}
use Rattle.std.proofs.lemmas.Nat.{mul-le}
use Rattle.std.proofs.lemmas.List.Elements.{All-head, All-tail}
use Rattle.exact_num.specs.declared.misfit.Wide.{Wide as Misfit}
use Rattle.exact_num.specs.Fraction.{Fraction, whole}
use Rattle.exact_num.specs.Fits.{add_of, mul_of}
use Rattle.exact_num.proofs.WholeNumbers.{mul-wholes, add-wholes}
use Rattle.frac.specs.Range.{limit as largest}
use Rattle.form.specs.declared.limits.TheConstants.{MAX_PRICE, MAX_QUANTITY}
use Rattle.form.specs.declared.orders.Order.{Order}
use Rattle.form.specs.declared.orders.Side.{Side}
use Rattle.form.specs.declared.orders.Side.TheVariants.{Buy, Sell}
use Rattle.form.specs.Vector.{is_same_bundle}
use Rattle.form.specs.Payoff.{BundleLeg, bundle_of}
use Rattle.exact_num.specs.Steps.{fold_steps, and_then}
use Rattle.form.specs.Steps.{add_for_side}
use Rattle.exact_num.specs.Tests.{is_same}
use Rattle.cert_check.specs.Cover.{add_fill, add_same, balances_at, balances_all, fallback_holds}
use Rattle.cert_check.specs.Tests.{add_premium, surplus_holds}
use Rattle.clearing.proofs.Wholes.{wholes}

-- a step gives a whole number of at most this size
record IsWhole (r : Result Fraction Misfit) (bound : ℕ) : Type 0 where
  value : ℤ
  small : unsigned_abs value ≤ bound
  is : r ≡ Ok (whole value)

add_fits : (t v : ℤ) (bound more : ℕ) → unsigned_abs t ≤ bound → unsigned_abs v ≤ more → bound + more ≤ largest → IsWhole (add_of largest (whole t) (whole v)) (bound + more)
add_fits t v bound more low step fits =
    let small : unsigned_abs (t +ℤ v) ≤ bound + more = omega (arith, ints, low, step) in
    let sum = add-wholes largest t v (omega arith) (omega (arith, low, fits)) (omega (arith, step, fits)) in
    record {
      value = t +ℤ v;
      small = small;
      is = rw (le-leb (unsigned_abs (t +ℤ v)) largest (omega (arith, small, fits))) at sum;
    }

-- both sides add or subtract
on_side : (side : Side) (t : ℤ) (a p bound : ℕ) → unsigned_abs t ≤ bound → a ≤ MAX_QUANTITY → p ≤ MAX_PRICE → bound + 1000000000000000000 ≤ largest
    → IsWhole (add_for_side largest (whole t) side (whole (pos a)) (whole (pos p))) (bound + 1000000000000000000)
on_side side t a p bound low quantity price fits = by_side side
  where
    most : a * p ≤ 1000000000000000000
    most = mul-le a p MAX_QUANTITY MAX_PRICE quantity price

    size : unsigned_abs (pos a *ℤ pos p) ≤ 1000000000000000000
    size = omega (arith, ints, most)

    turned : unsigned_abs (neg_ℤ (pos a *ℤ pos p)) ≤ 1000000000000000000
    turned = omega (arith, ints, size)

    product : mul_of largest (whole (pos a)) (whole (pos p)) ≡ Ok (whole (pos a *ℤ pos p))
    product = rw (le-leb (unsigned_abs (pos a *ℤ pos p)) largest (omega (arith, size, fits))) at (mul-wholes largest (pos a) (pos p) (omega arith))

    by_side : (s : Side) → IsWhole (add_for_side largest (whole t) s (whole (pos a)) (whole (pos p))) (bound + 1000000000000000000)
    by_side Buy = rw product (add_fits t (pos a *ℤ pos p) bound 1000000000000000000 low size fits)
    by_side Sell = rw product (add_fits t (neg_ℤ (pos a *ℤ pos p)) bound 1000000000000000000 low turned fits)

premiums_fit : (orders : List Order) (amounts : List ℕ) (t : ℤ) (bound : ℕ) → unsigned_abs t ≤ bound → All (λ (order : Order). order.price ≤ MAX_PRICE) orders → All (λ amount. amount ≤ MAX_QUANTITY) amounts
    → bound + length orders * 1000000000000000000 ≤ largest → IsWhole (fold_steps (add_premium largest) (whole t) (zip orders (wholes amounts))) (bound + length orders * 1000000000000000000)
premiums_fit [] amounts t bound low prices small fits = record { value = t; small = omega (arith, low); is = refl }
premiums_fit (o ∷ orders) [] t bound low prices small fits = record { value = t; small = omega (arith, low); is = refl }
premiums_fit (o ∷ orders) (a ∷ amounts) t bound low prices small fits =
    let P : Order → Type 0 = λ order. order.price ≤ MAX_PRICE in
    let Q : ℕ → Type 0 = λ amount. amount ≤ MAX_QUANTITY in
    let first = on_side o.side t a o.price bound low (All-head Q a amounts small) (All-head P o orders prices) (omega (arith, fits)) in
    let rest = premiums_fit orders amounts first.value (bound + 1000000000000000000) first.small (All-tail P o orders prices) (All-tail Q a amounts small) (omega (arith, fits)) in
    record { value = rest.value; small = omega (arith, rest.small); is = rw first.is rest.is }

-- a check that ends is no misfit
ends : (r : Result Bool Misfit) (b : Bool) (w : Misfit) → r ≡ Ok b → r ≡ Err w → ⊥
ends r b w is e = cc

pub surplus_fits : (orders : List Order) (amounts : List ℕ) (S : Fraction) (w : Misfit) → length orders ≤ 256 → All (λ (order : Order). order.price ≤ MAX_PRICE) orders → All (λ amount. amount ≤ MAX_QUANTITY) amounts
    → surplus_holds largest (zip orders (wholes amounts)) (whole (pos 0)) S ≡ Err w → ⊥
surplus_fits orders amounts S w few prices small =
    let premium = premiums_fit orders amounts (pos 0) 0 (omega arith) prices small (omega (arith, few)) in
    let left = add_fits premium.value (neg_ℤ (pos 0)) (0 + length orders * 1000000000000000000) 0 premium.small (omega (arith, ints)) (omega (arith, few)) in
    let holds = is_same (whole left.value) S && int_le (pos 0) S.numerator in
    ends (surplus_holds largest (zip orders (wholes amounts)) (whole (pos 0)) S) holds w (rw (premium.is, left.is) refl)

fill_fits : (side : Side) (t : ℤ) (a bound : ℕ) → unsigned_abs t ≤ bound → a ≤ MAX_QUANTITY → bound + MAX_QUANTITY ≤ largest → IsWhole (add_fill largest (whole t) side (whole (pos a))) (bound + MAX_QUANTITY)
fill_fits Buy t a bound low quantity fits = add_fits t (pos a) bound MAX_QUANTITY low (omega (arith, ints, quantity)) fits
fill_fits Sell t a bound low quantity fits = add_fits t (neg_ℤ (pos a)) bound MAX_QUANTITY low (omega (arith, ints, quantity)) fits

same_fits : (test : Bool) (side : Side) (t : ℤ) (a bound : ℕ) → unsigned_abs t ≤ bound → a ≤ MAX_QUANTITY → bound + MAX_QUANTITY ≤ largest
    → IsWhole (if test then add_fill largest (whole t) side (whole (pos a)) else Ok (whole t)) (bound + MAX_QUANTITY)
same_fits true side t a bound low quantity fits = fill_fits side t a bound low quantity fits
same_fits false side t a bound low quantity fits = record { value = t; small = omega (arith, low); is = refl }

all_same_fit : (bundle : List BundleLeg) (orders : List Order) (amounts : List ℕ) (t : ℤ) (bound : ℕ) → unsigned_abs t ≤ bound → All (λ amount. amount ≤ MAX_QUANTITY) amounts
    → bound + length orders * MAX_QUANTITY ≤ largest → IsWhole (fold_steps (add_same largest bundle) (whole t) (zip orders (wholes amounts))) (bound + length orders * MAX_QUANTITY)
all_same_fit bundle [] amounts t bound low small fits = record { value = t; small = omega (arith, low); is = refl }
all_same_fit bundle (o ∷ orders) [] t bound low small fits = record { value = t; small = omega (arith, low); is = refl }
all_same_fit bundle (o ∷ orders) (a ∷ amounts) t bound low small fits =
    let Q : ℕ → Type 0 = λ amount. amount ≤ MAX_QUANTITY in
    let first = same_fits (is_same_bundle (bundle_of o) bundle) o.side t a bound low (All-head Q a amounts small) (omega (arith, fits)) in
    let rest = all_same_fit bundle orders amounts first.value (bound + MAX_QUANTITY) first.small (All-tail Q a amounts small) (omega (arith, fits)) in
    record { value = rest.value; small = omega (arith, rest.small); is = rw first.is rest.is }

at_fits : (bundle : List BundleLeg) (orders : List Order) (amounts : List ℕ) → length orders ≤ 256 → All (λ amount. amount ≤ MAX_QUANTITY) amounts → (b : Bool) × (balances_at largest (zip orders (wholes amounts)) bundle ≡ Ok b)
at_fits bundle orders amounts few small =
    let sum = all_same_fit bundle orders amounts (pos 0) 0 (omega arith) small (omega (arith, few)) in
    (is_same (whole sum.value) (whole (pos 0)), rw sum.is refl)

-- the second check where the first ends
then_ends : (first second : Result Bool Misfit) → ((b : Bool) × (first ≡ Ok b)) → ((b : Bool) × (second ≡ Ok b)) → (b : Bool) × (and_then first second ≡ Ok b)
then_ends (Ok true) second f s = s
then_ends (Ok false) second f s = (false, refl)
then_ends (Err w) second f s = absurd (ends (Err w) f.0 w f.1 refl)

all_fit : (orders : List Order) (amounts : List ℕ) (rest : List Order) → length orders ≤ 256 → All (λ amount. amount ≤ MAX_QUANTITY) amounts → (b : Bool) × (balances_all largest (zip orders (wholes amounts)) rest ≡ Ok b)
all_fit orders amounts [] few small = (true, refl)
all_fit orders amounts (o ∷ rest) few small =
    then_ends (balances_at largest (zip orders (wholes amounts)) (bundle_of o)) (balances_all largest (zip orders (wholes amounts)) rest) (at_fits (bundle_of o) orders amounts few small) (all_fit orders amounts rest few small)

pub balances_fit : (orders : List Order) (amounts : List ℕ) (w : Misfit) → length orders ≤ 256 → All (λ amount. amount ≤ MAX_QUANTITY) amounts → fallback_holds largest (zip orders (wholes amounts)) orders (whole (pos 0)) ≡ Err w → ⊥
balances_fit orders amounts w few small =
    let all = all_fit orders amounts orders few small in
    ends (balances_all largest (zip orders (wholes amounts)) orders) all.0 w all.1
