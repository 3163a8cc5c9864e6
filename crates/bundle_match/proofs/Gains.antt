-- What fills earn above and below the prices of their options: no fills gain more there than those
-- that the prices part.
use Rattle.std.proofs.Common.{◌≡◌, ℕ, ◌+◌, ◌-◌, ◌*◌, ◌≤◌, List, [], ◌∷◌, inl, inr, length, All, ℤ, pos, ◌-ℤ◌, ◌*ℤ◌, ◌≤ℤ◌, refl, subst, ◌∙◌, arith}
use Rattle.std.specs.List.{zip}
use Rattle.std.proofs.lemmas.Bool.{cases_order}
use Rattle.std.proofs.lemmas.Int.{ints}
use Rattle.std.proofs.lemmas.List.Elements.{All-head, All-tail}
use native.Mathlib.Nat.{mul-le-mul_left}
use Rattle.arithmetic.proofs.Products.{products}
use Rattle.form.specs.declared.orders.Order.{Order}
use Rattle.form.specs.declared.orders.Side.{Side}
use Rattle.form.specs.declared.orders.Side.TheVariants.{Buy, Sell}
use Rattle.clearing_model.specs.Balance.{AreBalanced}
use Rattle.clearing_model.specs.Clearing.{Filled, for_side, signed_sum, as_signed, buys_less_sells, premium}
use Rattle.form.specs.Payoff.{BundleLeg, bundle_of}
use Rattle.market_laws.proofs.Balance.{balanced_sum_is_zero}
use Rattle.market_laws.proofs.Legs.{signed_sums_agree}
use Rattle.bundle_match.specs.Laws.{IsBetter, IsFilledAt}

-- f times the fill, summed over the buys less the sells
abbrev pub total : (Order → ℤ) → List Order → List ℕ → ℤ
total f orders fills = signed_sum f (as_signed (zip orders fills))

total_is : (f : Order → ℤ) (orders : List Order) (fills : List ℕ) → total f orders fills ≡ buys_less_sells f (zip orders fills)
total_is f orders fills = signed_sums_agree f (zip orders fills)

-- between two prices the most is gained where the most is filled
most : (d low a n : ℕ) → a ≤ n → (low + d) * a + low * n ≤ (low + d) * n + low * a
most d low a n h = omega (arith, mul-le-mul_left d h)

most_of : (high low a n : ℕ) → low ≤ high → a ≤ n → high * a + low * n ≤ high * n + low * a
most_of high low a n le h =
    let e : low + (high - low) ≡ high = omega arith in
    subst (λ k. k * a + low * n ≤ k * n + low * a) e (most (high - low) low a n h)

-- of each order the match gains the most that can be gained at the price
part_is_most : (side : Side) (limit price q m a F : ℕ) → (IsBetter side limit price → m ≡ q) × (IsBetter side price limit → m ≡ 0) → a ≤ q * F
    → for_side side ((pos limit -ℤ pos price) *ℤ pos a) ≤ℤ (for_side side ((pos limit -ℤ pos price) *ℤ pos m) *ℤ pos F)
part_is_most Buy limit price q m a F h le = elim (cases_order limit price) [
  | inl e ↦ rw e (omega (arith, ints, products))
  | inr (inl worse) ↦ rw (h.1 worse) (omega (arith, ints, products, most_of price limit 0 a (omega arith) (omega arith)))
  | inr (inr better) ↦ rw (h.0 better) (omega (arith, ints, products, most_of limit price a (q * F) (omega arith) le))
]
part_is_most Sell limit price q m a F h le = elim (cases_order limit price) [
  | inl e ↦ rw e (omega (arith, ints, products))
  | inr (inl better) ↦ rw (h.0 better) (omega (arith, ints, products, most_of price limit a (q * F) (omega arith) le))
  | inr (inr worse) ↦ rw (h.1 worse) (omega (arith, ints, products, most_of limit price 0 a (omega arith) (omega arith)))
]

abbrev pub above_price : (List BundleLeg → ℕ) → Order → ℤ
above_price price o = pos o.price -ℤ pos (price (bundle_of o))

pub sum_is_most : (price : List BundleLeg → ℕ) (orders : List Order) (m g : List ℕ) (F : ℕ)
    → length m ≡ length orders → All (λ (fill : Filled). IsFilledAt (price (bundle_of fill.0)) fill) (zip orders m)
    → length g ≡ length orders → All (λ (fill : Filled). fill.1 ≤ fill.0.quantity * F) (zip orders g)
    → total (above_price price) orders g ≤ℤ (total (above_price price) orders m *ℤ pos F)
sum_is_most price [] m g F size_m at_price size_g within = omega (arith, ints)
sum_is_most price (o ∷ orders) [] g F size_m at_price size_g within = absurd (omega (arith, size_m))
sum_is_most price (o ∷ orders) (a ∷ m) [] F size_m at_price size_g within = absurd (omega (arith, size_g))
sum_is_most price (o ∷ orders) (a ∷ m) (b ∷ g) F size_m at_price size_g within =
    let P : Filled → Type 0 = λ fill. IsFilledAt (price (bundle_of fill.0)) fill in
    let Q : Filled → Type 0 = λ fill. fill.1 ≤ fill.0.quantity * F in
    let here = part_is_most o.side o.price (price (bundle_of o)) o.quantity a b F (All-head P (o, a) (zip orders m) at_price) (All-head Q (o, b) (zip orders g) within) in
    let rest = sum_is_most price orders m g F (omega (arith, size_m)) (All-tail P (o, a) (zip orders m) at_price) (omega (arith, size_g)) (All-tail Q (o, b) (zip orders g) within) in
    omega (arith, ints, products, here, rest)

-- so the match gains no less than nothing
for_side-none : (side : Side) (x : ℤ) → for_side side (x *ℤ pos 0) ≡ pos 0
for_side-none Buy x = omega (arith, ints, products)
for_side-none Sell x = omega (arith, ints, products)

pub sum_is_gain : (price : List BundleLeg → ℕ) (orders : List Order) (m : List ℕ) → length m ≡ length orders → All (λ (fill : Filled). IsFilledAt (price (bundle_of fill.0)) fill) (zip orders m)
    → pos 0 ≤ℤ total (above_price price) orders m
sum_is_gain price [] m size at_price = omega (arith, ints)
sum_is_gain price (o ∷ orders) [] size at_price = absurd (omega (arith, size))
sum_is_gain price (o ∷ orders) (a ∷ m) size at_price =
    let P : Filled → Type 0 = λ fill. IsFilledAt (price (bundle_of fill.0)) fill in
    let here = part_is_most o.side o.price (price (bundle_of o)) o.quantity a 0 1 (All-head P (o, a) (zip orders m) at_price) (omega arith) in
    let none = for_side-none o.side (pos o.price -ℤ pos (price (bundle_of o))) in
    let rest = sum_is_gain price orders m (omega (arith, size)) (All-tail P (o, a) (zip orders m) at_price) in
    omega (arith, ints, products, here, none, rest)

-- of balanced fills the price takes nothing away
for_side-less : (side : Side) (x y : ℤ) (a : ℕ) → for_side side ((x -ℤ y) *ℤ pos a) ≡ for_side side (x *ℤ pos a) -ℤ for_side side (y *ℤ pos a)
for_side-less Buy x y a = omega (arith, ints, products)
for_side-less Sell x y a = omega (arith, ints, products)

total-less : (f e : Order → ℤ) (orders : List Order) (g : List ℕ) → total (λ o. f o -ℤ e o) orders g ≡ total f orders g -ℤ total e orders g
total-less f e [] g = refl
total-less f e (o ∷ orders) [] = refl
total-less f e (o ∷ orders) (a ∷ g) = omega (arith, ints, for_side-less o.side (f o) (e o) a, total-less f e orders g)

pub earned : (price : List BundleLeg → ℕ) (orders : List Order) (g : List ℕ) → AreBalanced (zip orders g) → total (above_price price) orders g ≡ premium (zip orders g)
earned price orders g balanced =
    let f : List BundleLeg → ℤ = λ bundle. pos (price bundle) in
    let of : Order → ℤ = λ o. f (bundle_of o) in
    let parts = total-less (λ o. pos o.price) of orders g in
    let none = total_is of orders g ∙ balanced_sum_is_zero (zip orders g) balanced f in
    omega (arith, ints, parts, none, total_is (λ o. pos o.price) orders g)
