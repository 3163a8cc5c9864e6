-- The batch of a market: its orders are the market's live orders, it may be cleared, and the
-- premiums can be moved.
use Rattle.std.proofs.Common.{◌≡◌, ℕ, List, [], ◌∷◌, length, map, Option, None, Some, IsSome, refl, sym, ap, ◌∙◌, subst, arith}
use Rattle.std.specs.List.{All, zip}
use Rattle.std.specs.Option.{option_map, option_map_or}
use Rattle.std.proofs.lemmas.Int.{ints}
use Rattle.std.proofs.lemmas.Nat.{mul-le}
use Rattle.std.proofs.lemmas.List.{length-map}
use Rattle.std.proofs.lemmas.List.Elements.{All-nil, All-cons, All-head, All-tail}
use Rattle.cash_ledger.specs.Ledger.{LedgerState}
use Rattle.form.specs.declared.limits.TheConstants.{MAX_QUANTITY}
use Rattle.form.specs.declared.orders.Batch.{Batch}
use Rattle.form.specs.declared.orders.Order.{Order}
use Rattle.clearing_model.specs.Certificate.{IsFill, AreFractionFills}
use Rattle.form.specs.Limits.{IsOrderWithin, IsWithinLimits}
use Rattle.frac.specs.declared.frac128.Frac128.{Frac128}
use Rattle.frac.specs.Value.{fraction_of}
use Rattle.order_book.specs.Book.{BookState, batch_of, market_of, live_of}
use Rattle.order_book.specs.Markets.{MarketState}
use Rattle.order_book.proofs.MarketLists.{live_found}
use Rattle.order_book.proofs.BookKept.{market_kept, orders_within}
use Rattle.settlement.specs.Premium.{IsOrderFill}
use Rattle.exchange_core.specs.Kept.{AreJoined, IsOfOpen, IsPayable}
use Rattle.exchange_core.proofs.LiveAccounts.{All-live_in}

-- ---- the batch is the market's
found_live : (found : Option MarketState) (batch : Batch) → option_map batch_of found ≡ Some batch
    → IsSome found × (option_map_or (λ (m : MarketState). m.live) found [] ≡ batch.orders)
found_live None batch is = cc
found_live (Some m) batch is = let same : batch_of m ≡ batch = cc in (refl, ap (λ (b : Batch). b.orders) same)

pub batch_found : (book : BookState) (market : ℕ) (batch : Batch) → option_map batch_of (market_of book market) ≡ Some batch
    → IsSome (market_of book market) × (live_of book market ≡ batch.orders)
batch_found book market batch is = found_live (market_of book market) batch is

-- an order of an open account within the limits
payable : (accounts : List ℕ) (orders : List Order) → All (IsOfOpen accounts) orders → All IsOrderWithin orders → All (IsPayable accounts) orders
payable accounts orders held within = λ k d inside. record {
  account = held k d inside;
  price = (within k d inside).price;
  quantity = (within k d inside).quantity;
}

pub batch_payable : (ledger : LedgerState) (book : BookState) → AreJoined ledger book → (market : ℕ) (batch : Batch) → live_of book market ≡ batch.orders → All IsOrderWithin batch.orders
    → (accounts : List ℕ) (orders : List Order) → accounts ≡ ledger.accounts → orders ≡ batch.orders → All (IsPayable accounts) orders
batch_payable ledger book joined market batch live within accounts orders same are =
    let held = subst (λ l. All (IsOfOpen l) (live_of book market)) (sym same) (All-live_in (IsOfOpen ledger.accounts) market book.markets joined.kept.accounts) in
    subst (λ l. All (IsPayable accounts) l) (sym are) (payable accounts batch.orders (subst (λ l. All (IsOfOpen accounts) l) live held) within)

pub market_there : (book : BookState) (market : ℕ) (m : MarketState) → market_of book market ≡ Some m → IsSome (market_of book market)
market_there book market m found = subst IsSome (sym found) refl

-- the live orders of a market
pub live_payable : (ledger : LedgerState) (book : BookState) → AreJoined ledger book → (market : ℕ) (m : MarketState) → market_of book market ≡ Some m
    → (accounts : List ℕ) → accounts ≡ ledger.accounts → All (IsPayable accounts) (live_of book market)
live_payable ledger book joined market m found accounts same =
    let within = orders_within book.accepted m (market_kept book joined.kept.book market m found) in
    let held = subst (λ l. All (IsOfOpen l) (live_of book market)) (sym same) (All-live_in (IsOfOpen ledger.accounts) market book.markets joined.kept.accounts) in
    payable accounts (live_of book market) held (subst (All IsOrderWithin) (sym (live_found market book.markets m found)) within)

-- ---- what is paid
-- a fill from 0 to the quantity of such an order may be paid for
abbrev pub MayBePaid : Frac128 → Type 0
MayBePaid fill = IsOrderFill (fraction_of fill)

paid : (order : Order) (fill : Frac128) → IsOrderWithin order → IsFill (order, fraction_of fill) → MayBePaid fill
paid order fill within is =
    let most = mul-le order.quantity fill.denominator MAX_QUANTITY fill.denominator within.quantity (omega arith) in
    record { not_below_zero = is.1; at_most = omega (arith, ints, is.2, most) }

all_paid : (orders : List Order) (fills : List Frac128) → length fills ≡ length orders → All IsOrderWithin orders → All IsFill (zip orders (map fraction_of fills)) → All MayBePaid fills
all_paid orders [] same within are = All-nil MayBePaid
all_paid [] (fill ∷ fills) same within are = absurd (omega (arith, same))
all_paid (order ∷ orders) (fill ∷ fills) same within are =
    let first = paid order fill (All-head IsOrderWithin order orders within) (All-head IsFill (order, fraction_of fill) (zip orders (map fraction_of fills)) are) in
    let others = all_paid orders fills (omega (arith, same)) (All-tail IsOrderWithin order orders within) (All-tail IsFill (order, fraction_of fill) (zip orders (map fraction_of fills)) are) in
    All-cons MayBePaid fill fills first others

pub fills_paid : (batch : Batch) (charged : List Frac128) (orders : List Order) (fills : List Frac128) → IsWithinLimits batch → AreFractionFills batch.orders (map fraction_of charged)
    → orders ≡ batch.orders → fills ≡ charged → (length fills ≡ length orders) × All MayBePaid fills
fills_paid batch charged orders fills within allowed same are =
    let count : length charged ≡ length batch.orders = sym (length-map charged fraction_of) ∙ allowed.0 in
    (ap length are ∙ count ∙ ap length (sym same), subst (All MayBePaid) (sym are) (all_paid batch.orders charged count within.orders_within allowed.1))
