-- The surplus is what buyers pay less what sellers get.
use Rattle.std.proofs.Common.{◌≡◌, ◌≤◌, ◌*◌, unsigned_abs, length, All, ℕ, List, [], ◌∷◌, pos, ◌-ℤ◌, refl, ap, ap₂, ◌∙◌, arith}
use Rattle.std.proofs.lemmas.Int.{ints}
use Rattle.std.proofs.lemmas.Nat.{mul-le}
use Rattle.std.specs.List.{zip}
use Rattle.std.proofs.lemmas.List.Elements.{All-head, All-tail}
use Rattle.arithmetic.proofs.Sums.{weigh_pos}
use Rattle.arithmetic.specs.Sums.{weigh}
use Rattle.clearing_model.specs.Clearing.{Filled, if_buy, if_sell, bought, sold, premium}
use Rattle.form.specs.declared.limits.TheConstants.{MAX_PRICE, MAX_QUANTITY}
use Rattle.form.specs.declared.orders.Order.{Order}
use Rattle.form.specs.declared.orders.Side.{Side}
use Rattle.form.specs.declared.orders.Side.TheVariants.{Buy, Sell}
use Rattle.clearing.specs.Premiums.{amount_on, paid_total}

price_of : Filled → ℕ
price_of fill = fill.0.price

total_is : (side : Side) (fills : List Filled) → weigh (amount_on side) (λ (fill : Filled). fill.0.price) fills ≡ paid_total side fills
total_is side [] = refl
total_is side (fill ∷ fills) = omega (arith, total_is side fills)

pub premium_is : (fills : List Filled) → premium fills ≡ pos (paid_total Buy fills) -ℤ pos (paid_total Sell fills)
premium_is fills =
    let price = λ (fill : Filled). fill.0.price in
    ap₂ (λ x y. x -ℤ y) (weigh_pos bought price fills ∙ ap pos (total_is Buy fills)) (weigh_pos sold price fills ∙ ap pos (total_is Sell fills))

pub difference_small : (a b : ℕ) → a ≤ 256 * 1000000000000000000 → b ≤ 256 * 1000000000000000000 → unsigned_abs (pos a -ℤ pos b) ≤ 256 * 1000000000000000000
difference_small a b low high = omega (arith, ints)

-- at most 256 orders within the limits pay no more than this on a side
factor : (a b : ℕ) → a ≤ MAX_PRICE → b ≤ MAX_QUANTITY → a * b ≤ 1000000000000000000
factor a b price quantity = mul-le a b MAX_PRICE MAX_QUANTITY price quantity

on_side : (side : Side) (o : Order) (a : ℕ) → amount_on side (o, a) ≤ a
on_side Buy o a = by_side o.side
  where
    by_side : (s : Side) → if_buy s a ≤ a
    by_side Buy = omega arith
    by_side Sell = omega arith
on_side Sell o a = by_side o.side
  where
    by_side : (s : Side) → if_sell s a ≤ a
    by_side Buy = omega arith
    by_side Sell = omega arith

paid_small : (side : Side) (orders : List Order) (amounts : List ℕ) → All (λ (order : Order). order.price ≤ MAX_PRICE) orders → All (λ amount. amount ≤ MAX_QUANTITY) amounts → paid_total side (zip orders amounts) ≤ length orders * 1000000000000000000
paid_small side [] amounts prices small = omega arith
paid_small side (o ∷ orders) [] prices small = omega arith
paid_small side (o ∷ orders) (a ∷ amounts) prices small =
    let P : Order → Type 0 = λ order. order.price ≤ MAX_PRICE in
    let Q : ℕ → Type 0 = λ amount. amount ≤ MAX_QUANTITY in
    let most = All-head Q a amounts small in
    let first = factor o.price (amount_on side (o, a)) (All-head P o orders prices) (omega (arith, most, on_side side o a)) in
    omega (arith, first, paid_small side orders amounts (All-tail P o orders prices) (All-tail Q a amounts small))

pub premium_small : (orders : List Order) (amounts : List ℕ) → length orders ≤ 256 → All (λ (order : Order). order.price ≤ MAX_PRICE) orders → All (λ amount. amount ≤ MAX_QUANTITY) amounts
    → unsigned_abs (premium (zip orders amounts)) ≤ 256 * 1000000000000000000
premium_small orders amounts few prices small =
    let bought = paid_small Buy orders amounts prices small in
    let sold = paid_small Sell orders amounts prices small in
    rw (premium_is (zip orders amounts)) (difference_small (paid_total Buy (zip orders amounts)) (paid_total Sell (zip orders amounts)) (omega (arith, bought)) (omega (arith, sold)))
