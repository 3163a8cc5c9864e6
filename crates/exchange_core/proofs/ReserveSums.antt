-- The sums of what live orders reserve, as orders come and go.
use Rattle.std.proofs.Common.{◌≡◌, ℕ, zero, suc, drop, slice_get, ◌+◌, ◌*◌, ◌≤◌, List, [], ◌∷◌, ◌++◌, Bool, true, false, cond, not, if◌then◌else◌, nat_eq, length, Some, IsSome, ap, ◌∙◌, arith}
use Rattle.std.specs.List.{All, find}
use Rattle.std.specs.Map.{lookup}
use Rattle.std.proofs.lemmas.List.Elements.{All-head, All-tail}
use Rattle.std.proofs.lemmas.Nat.{mul-le}
use Rattle.form.specs.declared.limits.TheConstants.{MAX_PRICE, MAX_QUANTITY}
use Rattle.form.specs.declared.orders.Order.{Order}
use Rattle.form.specs.declared.orders.Side.{Side}
use Rattle.form.specs.declared.orders.Side.TheVariants.{Buy, Sell}
use Rattle.order_book.specs.Kept.{IsLive, IsMarketKept}
use Rattle.order_book.specs.Markets.{MarketState, Markets, has_number, changed_in, live_in, live_orders, without}
use Rattle.order_book.specs.Numbers.{number_count}
use Rattle.order_book.proofs.AllLive.{sum-replaced}
use Rattle.order_book.proofs.LiveOrders.{without_none, none_counted}
use Rattle.exchange_core.specs.Reserves.{reserve_for, reserve_by, reserve_of}

pub reserve_of-append : (q : ℕ) (xs ys : List Order) → reserve_of q (xs ++ ys) ≡ reserve_of q xs + reserve_of q ys
reserve_of-append q [] ys = omega arith
reserve_of-append q (x ∷ xs) ys = omega (arith, reserve_of-append q xs ys)

-- the live orders of one market replaced
pub reserve_of-replaced : (q market : ℕ) (change : MarketState → MarketState) (live : List Order) → ((m : MarketState) → (change m).live ≡ live) → (markets : Markets) → IsSome (lookup (nat_eq market) markets)
    → reserve_of q (live_orders (changed_in change market markets)) + reserve_of q (live_in market markets) ≡ reserve_of q (live_orders markets) + reserve_of q live
reserve_of-replaced q = sum-replaced (reserve_of q) (reserve_of-append q)

-- the order with a number taken out of orders of which no other has it
pub reserve_of-without : (q number : ℕ) (taken : Order) (orders : List Order) → find (has_number number) orders ≡ Some taken → number_count number orders ≤ 1
    → reserve_of q (without number orders) + reserve_by q taken ≡ reserve_of q orders
reserve_of-without q number taken [] found once = cc
reserve_of-without q number taken (order ∷ orders) found once = by (nat_eq number order.id) found once (reserve_of-without q number taken orders)
  where
    by : (b : Bool) → cond b (Some order) (find (has_number number) orders) ≡ Some taken → (if b then 1 else 0) + number_count number orders ≤ 1
        → (find (has_number number) orders ≡ Some taken → number_count number orders ≤ 1 → reserve_of q (without number orders) + reserve_by q taken ≡ reserve_of q orders)
        → reserve_of q (cond (not b) (order ∷ without number orders) (without number orders)) + reserve_by q taken ≡ reserve_by q order + reserve_of q orders
    by true h one later =
        let same : order ≡ taken = cc in
        let none = none_counted number orders (omega arith) in
        omega (arith, ap (reserve_of q) (without_none number orders none), ap (reserve_by q) same)
    by false h one later = omega (arith, later h (omega arith))

-- ---- how much is reserved at most
cost_small : (side : Side) (quantity price : ℕ) → quantity ≤ MAX_QUANTITY → price ≤ MAX_PRICE → reserve_for side quantity price ≤ 1000000000000000000
cost_small Buy quantity price few low = mul-le quantity price MAX_QUANTITY MAX_PRICE few low
cost_small Sell quantity price few low = omega arith

reserve_by_small : (q : ℕ) (order : Order) → order.quantity ≤ MAX_QUANTITY → order.price ≤ MAX_PRICE → reserve_by q order ≤ 1000000000000000000
reserve_by_small q order few low =
    elim (nat_eq q order.account) as (λ b. (if b then reserve_for order.side order.quantity order.price else 0) ≤ 1000000000000000000) [
      | true ↦ cost_small order.side order.quantity order.price few low
      | false ↦ omega arith
    ]

live_small : (q underlyings accepted : ℕ) (orders : List Order) → All (IsLive underlyings accepted) orders → reserve_of q orders ≤ 1000000000000000000 * length orders
live_small q underlyings accepted [] live = omega arith
live_small q underlyings accepted (order ∷ orders) live =
    let first = All-head (IsLive underlyings accepted) order orders live in
    omega (arith, reserve_by_small q order first.within.quantity first.within.price, live_small q underlyings accepted orders (All-tail (IsLive underlyings accepted) order orders live))

-- 64 markets of 256 orders
pub reserve_of-small : (q accepted : ℕ) (markets : Markets) → All (λ (m : ℕ × MarketState). IsMarketKept accepted m.1) markets
    → reserve_of q (live_orders markets) ≤ 256000000000000000000 * length markets
reserve_of-small q accepted [] kept = omega arith
reserve_of-small q accepted (m ∷ markets) kept =
    let IsOne = λ (m : ℕ × MarketState). IsMarketKept accepted m.1 in
    let first = All-head IsOne m markets kept in
    let live = live_small q m.1.underlyings accepted m.1.live first.live in
    omega (arith, reserve_of-append q m.1.live (live_orders markets), live, first.room, reserve_of-small q accepted markets (All-tail IsOne m markets kept))

-- ---- orders from a place on
dropped : (q place : ℕ) (order : Order) (orders : List Order) → slice_get orders place ≡ Some order
    → reserve_of q (drop place orders) ≡ reserve_by q order + reserve_of q (drop (suc place) orders)
dropped q place order [] found = cc
dropped q zero order (o ∷ orders) found =
    let same : o ≡ order = cc in
    ap (λ (x : Order). reserve_by q x + reserve_of q orders) same
dropped q (suc place) order (o ∷ orders) found = dropped q place order orders found

pub reserve_of-dropped : (q place : ℕ) (order : Order) (orders : List Order) → slice_get orders place ≡ Some order
    → reserve_of q (drop place orders) ≡ reserve_by q order + reserve_of q (drop (place + 1) orders)
reserve_of-dropped q place order orders found =
    let next : suc place ≡ place + 1 = omega arith in
    dropped q place order orders found ∙ ap (λ n. reserve_by q order + reserve_of q (drop n orders)) next

-- what is left of a sum is no more
pub reserve_of-drop : (q place : ℕ) (orders : List Order) → reserve_of q (drop place orders) ≤ reserve_of q orders
reserve_of-drop q zero orders = omega arith
reserve_of-drop q (suc place) [] = omega arith
reserve_of-drop q (suc place) (o ∷ orders) = omega (arith, reserve_of-drop q place orders)
