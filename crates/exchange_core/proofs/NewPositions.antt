-- The positions of a cleared batch are kept.
use Rattle.std.proofs.Common.{◌≡◌, ℕ, zero, suc, ◌+◌, ◌*◌, ◌<◌, ◌≤◌, ◌≤ℤ◌, length, get_or, List, [], ◌∷◌, ◌++◌, Bool, true, false, if◌then◌else◌, int_lt, map, ℤ, pos, negsuc, Option, None, Some, refl, sym, ◌∙◌, subst, arith}
use Rattle.std.specs.List.{All, zip}
use Rattle.std.specs.Option.{option_map_or}
use Rattle.std.proofs.Math.Nat.{mul-le-mul_right}
use Rattle.std.proofs.lemmas.Int.{ints}
use Rattle.std.proofs.lemmas.List.Elements.{All-nil, All-cons, All-head, All-tail, All-append, All-weaker}
use Rattle.arithmetic.proofs.Tests.{int_lt-yes}
use Rattle.cash_ledger.specs.Ledger.{is_open}
use Rattle.clearing_model.specs.Certificate.{IsFill, AreFractionFills}
use Rattle.exact_num.specs.Fraction.{AtMost, plain_product, whole}
use Rattle.form.specs.declared.limits.TheConstants.{MAX_OPTIONS}
use Rattle.form.specs.declared.orders.Batch.{Batch}
use Rattle.form.specs.declared.orders.Order.{Order}
use Rattle.form.specs.Limits.{IsOrderWithin, IsWithinLimits}
use Rattle.form.specs.Payoff.{count_sizes, IsOnCount}
use Rattle.frac.specs.declared.frac128.Frac128.{Frac128}
use Rattle.frac.specs.Value.{fraction_of}
use Rattle.order_book.specs.Book.{BookState, batch_of, live_of, market_of}
use Rattle.order_book.specs.Kept.{IsLive}
use Rattle.order_book.specs.Markets.{MarketState, Markets, with_live_in}
use Rattle.order_book.specs.Refusals.{batch_refusals}
use Rattle.order_book.proofs.Accepting.{finishable}
use Rattle.order_book.proofs.BookKept.{market_kept, orders_within}
use Rattle.order_book.proofs.MarketLists.{live_found}
use Rattle.lists.specs.Refusals.{first_of}
use Rattle.settlement.specs.declared.position.Position.{Position}
use Rattle.settlement.specs.Payout.{IsHolding}
use Rattle.settlement.proofs.Quotients.{above}
use Rattle.exchange_core.specs.ExchangeState.{ExchangeState}
use Rattle.exchange_core.specs.Kept.{AreHeld, AreOrdersKept, ArePositionsKept, IsKept, IsOfOpen, IsPositionKept, trading_on}
use Rattle.exchange_core.specs.Positions.{position_of, positions_of, positions_in}
use Rattle.exchange_core.specs.Step.{batch_in}
use Rattle.exchange_core.proofs.LiveAccounts.{All-live_in}
use Rattle.exchange_core.proofs.PositionsKept.{positions-live, trading-emptied}

-- a fill of an order may be held
fill_held : (quantity sizes d : ℕ) (x : ℤ) → pos 0 ≤ℤ x → x ≤ℤ pos (quantity * d) → quantity * sizes ≤ MAX_OPTIONS
    → AtMost (plain_product (record { numerator = x; denominator = d }) (whole (pos sizes))) (whole (pos MAX_OPTIONS))
fill_held quantity sizes d (pos n) not_below most few =
    let of_fill : n ≤ quantity * d = omega (arith, ints) in
    let first = mul-le-mul_right sizes of_fill in
    let second = mul-le-mul_right d few in
    above n sizes d MAX_OPTIONS (omega arith)
fill_held quantity sizes d (negsuc n) not_below most few = absurd (omega (arith, ints))

held_fill : (order : Order) (fill : Frac128) → IsOrderWithin order → IsFill (order, fraction_of fill) → IsHolding order.bundle (fraction_of fill)
held_fill order fill within is = record {
  not_below_zero = is.1;
  counted = fill_held order.quantity (count_sizes order.bundle) fill.denominator fill.numerator is.1 is.2 within.counted;
}

abbrev IsHeldPair : Order × Frac128 → Type 0
IsHeldPair p = IsHolding p.0.bundle (fraction_of p.1)

pub all_held : (orders : List Order) (fills : List Frac128) → All IsOrderWithin orders → All IsFill (zip orders (map fraction_of fills)) → AreHeld orders fills
all_held [] fills within are = All-nil IsHeldPair
all_held (order ∷ orders) [] within are = All-nil IsHeldPair
all_held (order ∷ orders) (fill ∷ fills) within are =
    All-cons IsHeldPair (order, fill) (zip orders fills)
    (held_fill order fill (All-head IsOrderWithin order orders within) (All-head IsFill (order, fraction_of fill) (zip orders (map fraction_of fills)) are))
    (all_held orders fills (All-tail IsOrderWithin order orders within) (All-tail IsFill (order, fraction_of fill) (zip orders (map fraction_of fills)) are))

-- the fills of a batch
pub fills_held : (batch : Batch) (charged : List Frac128) (orders : List Order) (fills : List Frac128) → IsWithinLimits batch → AreFractionFills batch.orders (map fraction_of charged)
    → orders ≡ batch.orders → fills ≡ charged → AreHeld orders fills
fills_held batch charged orders fills within allowed same are =
    subst (λ l. AreHeld l fills) (sym same) (subst (AreHeld batch.orders) (sym are) (all_held batch.orders charged within.orders_within allowed.1))

-- the fill at the place of an order
pub held_at : (orders : List Order) (fills : List Frac128) (k : ℕ) (order : Order) (fill : Frac128) → AreHeld orders fills → k < length orders → length fills ≡ length orders
    → order ≡ get_or orders k order → fill ≡ get_or fills k fill → IsHolding order.bundle (fraction_of fill)
held_at [] fills k order fill all inside same o f = absurd (omega arith)
held_at (x ∷ orders) [] k order fill all inside same o f = absurd (omega (arith, same))
held_at (x ∷ orders) (y ∷ fills) zero order fill all inside same o f =
    subst (λ (p : Order). IsHolding p.bundle (fraction_of fill)) (sym o) (subst (λ (q : Frac128). IsHolding x.bundle (fraction_of q)) (sym f) (All-head IsHeldPair (x, y) (zip orders fills) all))
held_at (x ∷ orders) (y ∷ fills) (suc k) order fill all inside same o f =
    held_at orders fills k order fill (All-tail IsHeldPair (x, y) (zip orders fills) all) (omega arith) (omega (arith, same)) o f

module _ (accounts : List ℕ) (markets : Markets) (market batch n : ℕ) (trading : trading_on markets market ≡ Some n) where
  abbrev Kept : Position → Type 0
  Kept = IsPositionKept accounts markets

  abbrev IsOnIt : Order → Type 0
  IsOnIt order = IsOnCount (n + 1) order.bundle

  position_kept : (order : Order) (fill : Frac128) → is_open accounts order.account ≡ true → IsOnIt order → IsOrderWithin order → IsHolding order.bundle (fraction_of fill)
      → All Kept (positions_of market batch order fill)
  position_kept order fill opened on within holds = by (int_lt (pos 0) (fraction_of fill).numerator) refl
    where
      by : (b : Bool) → int_lt (pos 0) (fraction_of fill).numerator ≡ b → All Kept (if b then position_of market batch order fill ∷ [] else [])
      by true is =
          All-cons Kept (position_of market batch order fill) []
          (record {
            account = opened;
            underlyings = n;
            trading = trading;
            forms = on;
            options = within.options;
            filled = int_lt-yes (pos 0) (fraction_of fill).numerator is;
            held = holds;
          })
          (All-nil Kept)
      by false is = All-nil Kept

  positions_kept : (orders : List Order) (fills : List Frac128) → All (IsOfOpen accounts) orders → All IsOnIt orders → All IsOrderWithin orders → AreHeld orders fills
      → All Kept (positions_in market batch orders fills)
  positions_kept [] fills opened on within holds = All-nil Kept
  positions_kept (order ∷ orders) [] opened on within holds = All-nil Kept
  positions_kept (order ∷ orders) (fill ∷ fills) opened on within holds =
      All-append Kept (positions_of market batch order fill) (positions_in market batch orders fills)
      (position_kept order fill (All-head (IsOfOpen accounts) order orders opened) (All-head IsOnIt order orders on) (All-head IsOrderWithin order orders within) (All-head IsHeldPair (order, fill) (zip orders fills) holds))
      (positions_kept orders fills (All-tail (IsOfOpen accounts) order orders opened) (All-tail IsOnIt order orders on) (All-tail IsOrderWithin order orders within) (All-tail IsHeldPair (order, fill) (zip orders fills) holds))

-- those of the live orders of a market, once it has none
pub batch_positions : (accounts : List ℕ) (book : BookState) → AreOrdersKept accounts book → (market number : ℕ) (m : MarketState) → market_of book market ≡ Some m → m.settled ≡ false
    → (fills : List Frac128) → AreFractionFills m.live (map fraction_of fills)
    → ArePositionsKept accounts (with_live_in market [] book.markets) (positions_in market number m.live fills)
batch_positions accounts book kept market number m found unsettled fills are =
    let k = market_kept book kept.book market m found in
    let within = orders_within book.accepted m k in
    let opened = subst (All (IsOfOpen accounts)) (live_found market book.markets m found) (All-live_in (IsOfOpen accounts) market book.markets kept.accounts) in
    positions_kept accounts (with_live_in market [] book.markets) market number m.underlyings (trading-emptied market book.markets m found unsettled) m.live fills opened
    (All-weaker (IsLive m.underlyings book.accepted) (λ (o : Order). IsOnCount (m.underlyings + 1) o.bundle) (λ o l. l.forms) m.live k.live) within (all_held m.live fills within are.1)

-- the positions with those of a batch that was found
pub with_batch_kept : (accounts : List ℕ) (book : BookState) (positions : List Position) → AreOrdersKept accounts book → ArePositionsKept accounts book.markets positions
    → (market number : ℕ) → first_of (batch_refusals book market) ≡ None
    → (batch : Batch) (charged : List Frac128) (orders : List Order) (fills : List Frac128) → live_of book market ≡ batch.orders → AreFractionFills batch.orders (map fraction_of charged)
    → orders ≡ batch.orders → fills ≡ charged
    → ArePositionsKept accounts (with_live_in market [] book.markets) (positions ++ positions_in market number orders fills)
with_batch_kept accounts book positions kept held market number none batch charged orders fills live allowed same are =
    let (m, found, more, unsettled) = finishable book market none in
    let own : m.live ≡ batch.orders = sym (live_found market book.markets m found) ∙ live in
    let After = IsPositionKept accounts (with_live_in market [] book.markets) in
    let new = batch_positions accounts book kept market number m found unsettled charged (subst (λ (l : List Order). AreFractionFills l (map fraction_of charged)) (sym own) allowed) in
    All-append After positions (positions_in market number orders fills)
    (positions-live accounts market [] book.markets positions held)
    (subst (λ l. All After (positions_in market number l fills)) (own ∙ sym same) (subst (λ l. All After (positions_in market number m.live l)) (sym are) new))

-- the live orders of a market that is there, as its batch
pub live_batch : (found : Option MarketState) → option_map_or (λ (m : MarketState). m.live) found [] ≡ (option_map_or batch_of found (record { underlyings = 0; orders = [] })).orders
live_batch None = refl
live_batch (Some m) = refl

-- the positions after a batch that is cleared with these fills
pub cleared-kept : (state : ExchangeState) → IsKept state → (market : ℕ) → first_of (batch_refusals state.book market) ≡ None
    → (fills : List Frac128) → AreFractionFills (batch_in state market).orders (map fraction_of fills)
    → ArePositionsKept state.accounts (with_live_in market [] state.book.markets)
    (state.positions ++ positions_in market (state.book.finished + 1) (batch_in state market).orders fills)
cleared-kept state kept market none fills allowed =
    let batch = batch_in state market in
    with_batch_kept state.accounts state.book state.positions kept.orders kept.positions market (state.book.finished + 1) none
    batch fills batch.orders fills (live_batch (market_of state.book market)) allowed refl refl
