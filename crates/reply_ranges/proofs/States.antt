-- What a state of a run has beside what is kept stays so at each step, and its reply is within the
-- ranges of its line.
use Rattle.std.proofs.Common.{◌≡◌, ℕ, ◌+◌, ◌*◌, ◌-◌, ◌<◌, ◌≤◌, ◌||◌, ℤ, ◌*ℤ◌, unsigned_abs, List, [], ◌∷◌, ◌++◌, length, map, replicate, take, Bool, true, false, not, nat_eq, Option, None, Some, refl, ap, ◌∙◌, sym, subst, arith, ◌^◌, pos, negsuc, ◌≤ℤ◌, if◌then◌else◌, int_lt}
use Rattle.std.specs.List.{All, zip}
use Rattle.std.specs.Option.{option_map_or}
use Rattle.std.proofs.lemmas.Int.{ints}
use Rattle.std.proofs.lemmas.List.{length-append, length-replicate, length-take, length-map}
use Rattle.std.proofs.lemmas.List.Elements.{All-nil, All-cons, All-head, All-tail, All-append, All-filter, All-push, All-replicate, All-take, All-weaker, recursion_from_All, All-map}
use Rattle.limits.specs.declared.TheConstants.{MAX_ACCOUNT, MAX_SETTLEMENT_PRICE, MAX_GAIN}
use Rattle.cash_ledger.specs.declared.entry.Entry.{Entry}
use Rattle.cash_ledger.specs.Entries.{AreBounded, IsBounded, deposit_of, withdrawal_of, balance_of, transfer_of}
use Rattle.cash_ledger.specs.Ledger.{is_open}
use Rattle.cash_ledger.proofs.Balances.{AreBounded-push, balance_size}
use Rattle.clearing.specs.Outcome.{outcome_of}
use Rattle.clearing.proofs.Outcomes.{outcomes_are_within}
use Rattle.command_text.specs.declared.command.Body.{Body}
use Rattle.command_text.specs.declared.command.Body.TheVariants as body
use Rattle.command_text.specs.declared.command.Command.{Command}
use Rattle.command_text.specs.declared.command.Command.TheVariants.{Open, Deposit, Withdraw, Market, Trade, Bundle, Cancel, Clear, Settle, Balance}
use Rattle.command_text.specs.Within.{BodyIsWithin, IsWithin}
use Rattle.form.specs.declared.orders.Batch.{Batch}
use Rattle.form.specs.declared.orders.Order.{Order}
use Rattle.form.specs.Limits.{IsWithinLimits, IsOrderWithin}
use Rattle.form.specs.Payoff.{bundle_legs}
use Rattle.frac.specs.declared.frac128.Frac128.{Frac128}
use Rattle.frac.specs.Value.{fraction_of}
use Rattle.order_book.specs.Book.{BookState, batch_of, market_of, live_of, with_market, with_order, without_order}
use Rattle.order_book.specs.Kept.{IsLive}
use Rattle.order_book.specs.Markets.{MarketState}
use Rattle.order_book.specs.Refusals.{batch_refusals, close_refusals, live_refusals}
use Rattle.order_book.proofs.Accepting.{closable, finishable, listing_live, accepts}
use Rattle.order_book.proofs.BookKept.{batch_within, market_kept}
use Rattle.order_book.proofs.MarketLists.{live_found}
use Rattle.lists.specs.Refusals.{first_of}
use Rattle.settlement.specs.declared.position.PaidOut.{PaidOut}
use Rattle.settlement.specs.declared.position.Position.{Position}
use Rattle.settlement.specs.Payout.{floor_of}
use Rattle.clearing_model.specs.Certificate.{IsFill}
use Rattle.clearing_model.specs.Clearing.{for_side}
use Rattle.settlement.specs.Positions.{held_in, is_of, paid_out, paid_side, payouts_of, gain_at, outside}
use Rattle.reply_print.specs.Within as reply
use Rattle.exchange_core.specs.declared.refusal.Refusal.{Refusal}
use Rattle.exchange_core.specs.ExchangeState.{ExchangeState, empty_exchange}
use Rattle.exchange_core.specs.LineReplies.{reply_to}
use Rattle.exchange_core.specs.Kept.{IsKept, IsOfOpen, IsPaidOut}
use Rattle.exchange_core.specs.Payoffs.{payoff_entries, payoff_of, payoff_transfer}
use Rattle.exchange_core.specs.Positions.{positions_in, position_of, positions_of}
use Rattle.exchange_core.specs.Premiums.{premium_entries, premium_transfer, premiums_of}
use Rattle.exchange_core.specs.Refusals.{by_book, refusal_of, place_refusals}
use Rattle.exchange_core.specs.Step.{batch_in, cleared_with, effect, refusal_effect, step, with_entry}
use Rattle.exchange_core.proofs.FirstRefusal.{batch_none, close_none, live_none, place_none}
use Rattle.exchange_core.proofs.LiveAccounts.{All-live_in}
use Rattle.exchange_core.proofs.Settled.{are_paid_out}
use Rattle.exchange_lines.proofs.Payouts.{all_made}
use Rattle.exchange_lines.proofs.RunStates.{IsRunning, empty_runs, step_runs}
use Rattle.exchange_lines.proofs.GainSteps.{IsTrader, body_steps}
use Rattle.exchange_lines.proofs.ZeroPrices.{worth-with_zero_prices}
use Rattle.form.specs.declared.limits.TheConstants.{MAX_BUDGET, MAX_PRICE, MAX_QUANTITY}
use Rattle.order_book.specs.declared.new_order.NewOrder.{NewOrder}
use Rattle.reply_print.specs.Within.{IsReplyWithin}
use Rattle.exchange_core.specs.Orders.{order_by, order_for}
use Rattle.exchange_core.specs.Reserves.{reserve_in}
use Rattle.exchange_core.proofs.ReserveSums.{reserve_of-small}
use Rattle.reply_ranges.specs.Laws.{HasField}
use Rattle.reply_ranges.proofs.Outcomes.{outcomes_are_ranged}
use Rattle.reply_ranges.proofs.Refusals.{refusal_is_told}
use Rattle.std.proofs.Math.Nat.{mul-le-mul_right}
use Rattle.std.proofs.lemmas.List.Filters.{length-filter_both}
use Rattle.std.proofs.lemmas.Nat.{mul-le}
use Rattle.std.proofs.lemmas.Bool.{eqb-true}
use Rattle.cash_ledger.specs.declared.entry.Cause.{Cause}
use Rattle.cash_ledger.specs.declared.entry.Cause.TheVariants.{Payoff, Premium}
use Rattle.form.specs.declared.orders.Side.{Side}
use Rattle.form.specs.declared.orders.Side.TheVariants.{Buy, Sell}
use Rattle.settlement.specs.Premium.{premium_of}
use Rattle.settlement.proofs.Quotients.{ceil_least, down_fits}

-- ---- how large
pub AreBounded-append : (xs ys : List Entry) → AreBounded xs → AreBounded ys → AreBounded (xs ++ ys)
AreBounded-append [] ys a b = b
AreBounded-append (x ∷ xs) ys a b = (a.0, AreBounded-append xs ys a.1 b)

transfer_bounded : (from to amount : ℕ) (cause : Cause) → amount ≤ MAX_GAIN → AreBounded (transfer_of from to amount cause)
transfer_bounded from to amount cause small =
    ((omega (arith, ints, small), omega (arith, ints, small)), ((omega (arith, ints, small), omega (arith, ints, small)), tt))

side_bounded : (side : Side) (account amount : ℕ) (cause : Cause) → amount ≤ MAX_GAIN → AreBounded (premium_transfer side account amount cause)
side_bounded Buy account amount cause small = transfer_bounded account 0 amount cause small
side_bounded Sell account amount cause small = transfer_bounded 0 account amount cause small

premium_small : (side : Side) (x : ℤ) (d quantity price : ℕ) → 0 < d → pos 0 ≤ℤ x → x ≤ℤ pos (quantity * d) → quantity ≤ MAX_QUANTITY → price ≤ MAX_PRICE
    → premium_of side (record { numerator = x; denominator = d }) price ≤ MAX_GAIN
premium_small side (negsuc n) d quantity price some low high few cheap = absurd (omega (arith, ints, low))
premium_small side (pos n) d quantity price some low high few cheap =
    let options : n ≤ 1000000 * d = omega (arith, ints, high, mul-le-mul_right d few) in
    let most : n * price ≤ 1000000 * d * 1000000000000 = mul-le n price (1000000 * d) 1000000000000 options cheap in
    let up = ceil_least (n * price) d MAX_GAIN some (omega (arith, most)) in
    by side up
  where
    by : (s : Side) → premium_of Buy (record { numerator = pos n; denominator = d }) price ≤ MAX_GAIN → premium_of s (record { numerator = pos n; denominator = d }) price ≤ MAX_GAIN
    by Buy up = up
    by Sell up = down_fits (n * price) d MAX_GAIN up

module _ (batch : ℕ) where
  premium_bounded : (order : Order) (fill : Frac128) → IsOrderWithin order → IsFill (order, fraction_of fill) → AreBounded (premiums_of batch order (fraction_of fill))
  premium_bounded order fill within is =
      let amount : ℕ = premium_of order.side (fraction_of fill) order.price in
      let small = premium_small order.side fill.numerator fill.denominator order.quantity order.price is.0 is.1 is.2 within.quantity within.price in
      elim (int_lt (pos 0) (fraction_of fill).numerator) as (λ b. AreBounded (if b then premium_transfer order.side order.account amount (Premium batch) else [])) [
        | true ↦ side_bounded order.side order.account amount (Premium batch) small
        | false ↦ tt
      ]

  pub premiums_bounded : (orders : List Order) (fills : List Frac128) → All IsOrderWithin orders → All IsFill (zip orders (map fraction_of fills)) → AreBounded (premium_entries batch orders fills)
  premiums_bounded [] fills within are = tt
  premiums_bounded (order ∷ orders) [] within are = tt
  premiums_bounded (order ∷ orders) (fill ∷ fills) within are =
      let first : Order × _ = (order, fraction_of fill) in
      AreBounded-append (premiums_of batch order (fraction_of fill)) (premium_entries batch orders fills)
      (premium_bounded order fill (All-head IsOrderWithin order orders within) (All-head IsFill first (zip orders (map fraction_of fills)) are))
      (premiums_bounded orders fills (All-tail IsOrderWithin order orders within) (All-tail IsFill first (zip orders (map fraction_of fills)) are))

payoff_side_bounded : (side : Side) (account amount : ℕ) (cause : Cause) → amount ≤ MAX_GAIN → AreBounded (payoff_transfer side account amount cause)
payoff_side_bounded Buy account amount cause small = transfer_bounded 0 account amount cause small
payoff_side_bounded Sell account amount cause small = transfer_bounded account 0 amount cause small

abbrev pub IsAmountSmall : PaidOut → Type 0
IsAmountSmall paid = paid.amount ≤ MAX_GAIN

pub payoffs_bounded : (payouts : List PaidOut) → All IsAmountSmall payouts → AreBounded (payoff_entries payouts)
payoffs_bounded [] small = tt
payoffs_bounded (paid ∷ payouts) small =
    AreBounded-append (payoff_of paid) (payoff_entries payouts)
    (payoff_side_bounded paid.side paid.account paid.amount (Payoff paid.batch) (All-head IsAmountSmall paid payouts small))
    (payoffs_bounded payouts (All-tail IsAmountSmall paid payouts small))

-- ---- how many
premium_count : (side : Side) (account amount : ℕ) (cause : Cause) → length (premium_transfer side account amount cause) ≡ 2
premium_count Buy account amount cause = refl
premium_count Sell account amount cause = refl

payoff_count : (side : Side) (account amount : ℕ) (cause : Cause) → length (payoff_transfer side account amount cause) ≡ 2
payoff_count Buy account amount cause = refl
payoff_count Sell account amount cause = refl

-- two entries and a position for an order that is filled
pub batch_counts : (market batch : ℕ) (orders : List Order) (fills : List Frac128)
    → length (premium_entries batch orders fills) + 2 * length (positions_in market batch orders fills) ≤ 4 * length orders
batch_counts market batch [] fills = omega arith
batch_counts market batch (order ∷ orders) [] = omega arith
batch_counts market batch (order ∷ orders) (fill ∷ fills) =
    let amount : ℕ = premium_of order.side (fraction_of fill) order.price in
    let two = premium_count order.side order.account amount (Premium batch) in
    let Goal : Bool → Type 0 = λ b. length (if b then premium_transfer order.side order.account amount (Premium batch) else []) + 2 * length (if b then position_of market batch order fill ∷ [] else []) ≤ 4 in
    let one : length (premiums_of batch order (fraction_of fill)) + 2 * length (positions_of market batch order fill) ≤ 4 =
    elim (int_lt (pos 0) (fraction_of fill).numerator) as Goal [ true ↦ omega (arith, two) | false ↦ omega arith ] in
    omega (
      arith,
      one,
      batch_counts market batch orders fills,
      length-append (premiums_of batch order (fraction_of fill)) (premium_entries batch orders fills),
      length-append (positions_of market batch order fill) (positions_in market batch orders fills),
    )

pub payoff_counts : (payouts : List PaidOut) → length (payoff_entries payouts) ≡ 2 * length payouts
payoff_counts [] = refl
payoff_counts (paid ∷ payouts) =
    omega (arith, payoff_count paid.side paid.account paid.amount (Payoff paid.batch), payoff_counts payouts, length-append (payoff_of paid) (payoff_entries payouts))

-- two entries for a position that is taken out
pub settled_counts : (market : ℕ) (prices : List ℕ) (positions : List Position)
    → length (payoff_entries (payouts_of market prices positions)) + 2 * length (outside market positions) ≡ 2 * length positions
settled_counts market prices positions =
    omega (
      arith,
      payoff_counts (payouts_of market prices positions),
      length-map (held_in market positions) (paid_out prices),
      length-filter_both (is_of market) (λ p. not (is_of market p)) (λ p. refl) positions,
    )

-- ---- balances
pub balance_small : (account : ℕ) (entries : List Entry) → AreBounded entries → length entries ≤ 2064777216 → unsigned_abs (balance_of account entries) < 2 ^ 127
balance_small account entries bounded few =
    let size = balance_size account entries bounded in
    omega (arith, ints, size.0, size.1, few)

-- a position with the numbers of a batch and of an order
abbrev pub IsNumbered : Position → Type 0
IsNumbered position = reply.IsBatchNumber position.batch × reply.IsOrderNumber position.order

-- a state before the line of a number
pub record IsRanged (number : ℕ) (state : ExchangeState) : Type 0 where
  pub accounts : All (λ account. account ≤ MAX_ACCOUNT) state.accounts
  pub positions : All IsNumbered state.positions
  pub bounded : AreBounded state.entries
  -- an entry for a line, and four for an order of a batch: two as it is cleared, and two as its
  -- market is settled
  pub few : length state.entries + 2 * length state.positions < number + 1024 * state.book.finished

-- an exchange that runs
pub record IsStanding (number : ℕ) (state : ExchangeState) : Type 0 where
  pub running : IsRunning state
  pub ranged : IsRanged number state

pub empty_stands : IsStanding 1 empty_exchange
empty_stands = record {
  running = empty_runs;
  ranged = record {
    accounts = All-cons (λ account. account ≤ MAX_ACCOUNT) 0 [] (omega arith) (All-nil (λ account. account ≤ MAX_ACCOUNT));
    positions = All-nil IsNumbered;
    bounded = tt;
    few = omega arith;
  };
}

pub later_ranged : (n m : ℕ) (state : ExchangeState) → n ≤ m → IsRanged n state → IsRanged m state
later_ranged n m state le ranged = record { accounts = ranged.accounts; positions = ranged.positions; bounded = ranged.bounded; few = omega (arith, le, ranged.few) }

pub still : (n m : ℕ) (state : ExchangeState) → n ≤ m → IsStanding n state → IsStanding m state
still n m state le stands = record { running = stands.running; ranged = later_ranged n m state le stands.ranged }

-- an open account is within the limit
pub open_small : (accounts : List ℕ) (account : ℕ) → All (λ a. a ≤ MAX_ACCOUNT) accounts → is_open accounts account ≡ true → account ≤ MAX_ACCOUNT
open_small [] account small h = cc
open_small (a ∷ accounts) account small h = by (nat_eq account a) refl h (open_small accounts account (All-tail (λ a. a ≤ MAX_ACCOUNT) a accounts small))
  where
    by : (b : Bool) → nat_eq account a ≡ b → (b || is_open accounts account) ≡ true → (is_open accounts account ≡ true → account ≤ MAX_ACCOUNT) → account ≤ MAX_ACCOUNT
    by true is held later = subst (λ n. n ≤ MAX_ACCOUNT) (sym (eqb-true account a is)) (All-head (λ a. a ≤ MAX_ACCOUNT) a accounts small)
    by false is held later = later held

-- ---- the payouts of a settlement
abbrev paid_by : Position → ℤ → PaidOut
paid_by p gain = record { batch = p.batch; order = p.order; account = p.account; side = paid_side gain; amount = unsigned_abs gain }

-- prices that are left out are prices of 0
same_paid : (prices : List ℕ) (k : ℕ) (p : Position) → paid_out (prices ++ replicate k 0) p ≡ paid_out prices p
same_paid prices k p =
    ap (λ w. paid_by p (floor_of ((fraction_of p.fill).numerator *ℤ for_side p.side w) (fraction_of p.fill).denominator)) (worth-with_zero_prices prices k (bundle_legs p.bundle))

same_payouts : (prices : List ℕ) (k : ℕ) (positions : List Position) → map (paid_out (prices ++ replicate k 0)) positions ≡ map (paid_out prices) positions
same_payouts prices k [] = refl
same_payouts prices k (p ∷ positions) = rw (same_paid prices k p, same_payouts prices k positions) refl

payouts_can_be_paid : (state : ExchangeState) → IsKept state → (market count : ℕ) (prices : List ℕ) → All (λ p. p ≤ MAX_SETTLEMENT_PRICE) prices → first_of (close_refusals state.book market count) ≡ None
    → All (IsPaidOut state.accounts) (payouts_of market (take count prices) state.positions)
payouts_can_be_paid state kept market count prices within none =
    let (m, found, unsettled, same) = closable state.book market count none in
    let some = take count prices in
    let k : ℕ = m.underlyings - length some in
    let P : ℕ → Type 0 = λ p. p ≤ MAX_SETTLEMENT_PRICE in
    let counted = length-append some (replicate k 0) ∙ ap (λ n. length some + n) (length-replicate k 0) in
    let full : length (some ++ replicate k 0) ≡ m.underlyings = omega (arith, counted, length-take count prices, same) in
    let all : All P (some ++ replicate k 0) = All-append P some (replicate k 0) (All-take P count prices within) (All-replicate P k 0 (omega arith)) in
    subst (All (IsPaidOut state.accounts)) (same_payouts some k (held_in market state.positions))
    (are_paid_out state.accounts state.book market m found unsettled (some ++ replicate k 0) full all state.positions kept.positions)

-- what a payout has of its position: a gain below 0 is paid by a trader, and is none of 0
side_of_gain : (gain : ℤ) → reply.HasItsSide (paid_side gain) (unsigned_abs gain)
side_of_gain (pos n) = tt
side_of_gain (negsuc n) = omega arith

abbrev HasTrader : Position → Type 0
HasTrader position = 1 ≤ position.account

abbrev IsPaidFrom : PaidOut → Type 0
IsPaidFrom paid = reply.IsBatchNumber paid.batch × reply.IsOrderNumber paid.order × (1 ≤ paid.account) × reply.HasItsSide paid.side paid.amount

-- ---- the batch that a clear takes
pub record IsBatchOf (batch : Batch) : Type 0 where
  pub within : IsWithinLimits batch
  pub orders : All reply.IsOrderWithin batch.orders

-- it is within the ranges of a batch
pub batch_is_within : (batch : Batch) → IsBatchOf batch → reply.IsBatchWithin batch
batch_is_within batch is = ((is.within.has_forms.some, is.within.has_forms.few), is.within.orders_fit, recursion_from_All reply.IsOrderWithin batch.orders is.orders)

module _ (number : ℕ) (state : ExchangeState) (stands : IsStanding number state) where
  abbrev running : IsRunning state
  running = stands.running

  abbrev ranged : IsRanged number state
  ranged = stands.ranged

  order_ranged : (underlyings : ℕ) (order : Order) → IsLive underlyings state.book.accepted order → IsTrader order → IsOfOpen state.accounts order → reply.IsOrderWithin order
  order_ranged underlyings order live trader opened =
      let most = running.kept.orders.book.accepted in
      ((live.some, omega (arith, live.number, most)), (trader, open_small state.accounts order.account ranged.accounts opened), live.within)

  market_batch : (market : ℕ) (m : MarketState) → market_of state.book market ≡ Some m → IsBatchOf (batch_of m)
  market_batch market m found =
      let one = market_kept state.book running.kept.orders.book market m found in
      let same = live_found market state.book.markets m found in
      let traders : All IsTrader m.live = subst (All IsTrader) same (All-live_in IsTrader market state.book.markets running.traders) in
      let opened : All (IsOfOpen state.accounts) m.live = subst (All (IsOfOpen state.accounts)) same (All-live_in (IsOfOpen state.accounts) market state.book.markets running.kept.orders.accounts) in
      let live : All (IsLive m.underlyings state.book.accepted) m.live = one.live in
      record {
        within = batch_within state.book.accepted m one;
        orders = λ k d inside. order_ranged m.underlyings _ (live k d inside) (traders k d inside) (opened k d inside);
      }

  found_batch : (market : ℕ) (m : MarketState) → market_of state.book market ≡ Some m → IsBatchOf (batch_in state market)
  found_batch market m found =
      let is = ap (λ r. option_map_or batch_of r (record { underlyings = 0; orders = [] })) found in
      subst IsBatchOf (sym is) (market_batch market m found)

  pub batch_ranged : (market : ℕ) → first_of (batch_refusals state.book market) ≡ None → IsBatchOf (batch_in state market)
  batch_ranged market none = let (m, found, more, unsettled) = finishable state.book market none in found_batch market m found

  -- and those that are told
  pub live_ranged : (market : ℕ) → first_of (by_book (live_refusals state.book market)) ≡ None → IsBatchOf (batch_in state market)
  live_ranged market none = let (m, found, unsettled) = listing_live state.book market (live_none state.book market none) in found_batch market m found

  -- ---- the state behind a step
  abbrev Accounts : ℕ → Type 0
  Accounts account = account ≤ MAX_ACCOUNT

  -- with fills of the orders
  pub charged_ranged : (market : ℕ) (fills : List Frac128) → first_of (batch_refusals state.book market) ≡ None
      → All IsFill (zip (batch_in state market).orders (map fraction_of fills)) → IsRanged (number + 1) (cleared_with state market fills)
  charged_ranged market fills none are =
      let orders : List Order = (batch_in state market).orders in
      let finished : ℕ = state.book.finished + 1 in
      let (m, found, more, unsettled) = finishable state.book market none in
      let is = batch_ranged market none in
      let new_positions = positions_in market finished orders fills in
      let entries = premium_entries finished orders fills in
      record {
        accounts = ranged.accounts;
        positions = All-append IsNumbered state.positions new_positions ranged.positions
            (all_made IsNumbered reply.IsOrderWithin market finished (λ order fill h. ((omega arith, omega (arith, more)), h.0)) orders fills is.orders);
        bounded = AreBounded-append state.entries entries ranged.bounded (premiums_bounded finished orders fills is.within.orders_within are);
        few = omega (arith, ranged.few, is.within.orders_fit, batch_counts market finished orders fills, length-append state.entries entries, length-append state.positions new_positions);
      }

  paid_ranged : (market count : ℕ) (prices : List ℕ) → All (λ p. p ≤ MAX_SETTLEMENT_PRICE) prices → first_of (close_refusals state.book market count) ≡ None
      → All (IsPaidOut state.accounts) (payouts_of market (take count prices) state.positions)
  paid_ranged = payouts_can_be_paid state running.kept

  settled_ranged : (market count : ℕ) (prices : List ℕ) → All (λ p. p ≤ MAX_SETTLEMENT_PRICE) prices → first_of (close_refusals state.book market count) ≡ None
      → IsRanged (number + 1) (effect state (Settle market count prices)).1
  settled_ranged market count prices within none =
      let payouts = payouts_of market (take count prices) state.positions in
      let small : All IsAmountSmall payouts = All-weaker (IsPaidOut state.accounts) IsAmountSmall (λ p h. h.amount) payouts (paid_ranged market count prices within none) in
      record {
        accounts = ranged.accounts;
        positions = All-filter (λ p. not (is_of market p)) IsNumbered state.positions ranged.positions;
        bounded = AreBounded-append state.entries (payoff_entries payouts) ranged.bounded (payoffs_bounded payouts small);
        few = omega (arith, ranged.few, settled_counts market (take count prices) state.positions, length-append state.entries (payoff_entries payouts));
      }

  -- an entry more
  entered_ranged : (entry : Entry) → IsBounded entry → IsRanged (number + 1) (with_entry state entry)
  entered_ranged entry small = record {
    accounts = ranged.accounts;
    positions = ranged.positions;
    bounded = AreBounded-push state.entries entry ranged.bounded small;
    few = omega (arith, ranged.few, length-append state.entries (entry ∷ []));
  }

  -- neither entries nor positions, nor batches that are finished
  book_ranged : (book : BookState) → book.finished ≡ state.book.finished → IsRanged (number + 1) (record state { book = book })
  book_ranged book finished = record { accounts = ranged.accounts; positions = ranged.positions; bounded = ranged.bounded; few = omega (arith, ranged.few, finished) }

  effect_ranged : (command : Command) → IsWithin command → refusal_of state command ≡ None → IsRanged (number + 1) (effect state command).1
  effect_ranged (Open account) within none = record {
    accounts = All-push Accounts state.accounts account ranged.accounts within.1;
    positions = ranged.positions;
    bounded = ranged.bounded;
    few = omega (arith, ranged.few);
  }
  effect_ranged (Deposit account amount) within none = entered_ranged (deposit_of account amount) (omega (arith, ints, within.1.1), omega (arith, ints, within.1.1))
  effect_ranged (Withdraw account amount) within none = entered_ranged (withdrawal_of account amount) (omega (arith, ints, within.1.1), omega (arith, ints, within.1.1))
  effect_ranged (Market market underlyings) within none = book_ranged (with_market state.book market underlyings) refl
  effect_ranged (Trade side account market kind strike price quantity count weights) within none =
      book_ranged (with_order state.book (order_by side account market kind strike price quantity count weights)) refl
  effect_ranged (Bundle side account market price quantity bundle) within none = book_ranged (with_order state.book (order_for side account market price quantity bundle)) refl
  effect_ranged (Cancel account order) within none = book_ranged (without_order state.book order) refl
  effect_ranged (Clear market budget) within none =
      let may = batch_none state.book market none in
      charged_ranged market (outcome_of (batch_in state market) budget).fills may (outcomes_are_within (batch_in state market) budget (batch_ranged market may).within).1
  effect_ranged (Settle market count prices) within none = settled_ranged market count prices within.2 (close_none state.book market count none)
  effect_ranged (Balance account) within none = later_ranged number (number + 1) state (omega arith) ranged

  step_ranged : (command : Command) → IsWithin command → IsRanged (number + 1) (step state command).1
  step_ranged command within = by (refusal_of state command) refl
    where
      by : (r : Option Refusal) → refusal_of state command ≡ r → IsRanged (number + 1) (option_map_or (refusal_effect state) r (effect state command)).1
      by None none = effect_ranged command within none
      by (Some refusal) told = later_ranged number (number + 1) state (omega arith) ranged

  said_ranged : (said : Body) → BodyIsWithin said → IsRanged (number + 1) (reply_to state said).1
  said_ranged (body.Command command) within = step_ranged command within
  said_ranged body.Syntax within = later_ranged number (number + 1) state (omega arith) ranged
  said_ranged (body.Range field) within = later_ranged number (number + 1) state (omega arith) ranged

  -- so it stands behind what a line says
  pub said_stands : (said : Body) → BodyIsWithin said → IsStanding (number + 1) (reply_to state said).1
  said_stands said within = record {
    running = step_runs state (reply_to state said) stands.running (body_steps state said within stands.running.kept stands.running.traders);
    ranged = said_ranged said within;
  }

  -- ---- its reply
  module _ (is_line : reply.IsLine number) where
    -- balances after one line more
    pub balance_ranged : (next : ExchangeState) (account : ℕ) → next.book ≡ state.book → IsRanged (number + 1) next → reply.IsSmall (balance_of account next.entries)
    balance_ranged next account same after =
        let most = running.kept.orders.book.finished in
        balance_small account next.entries after.bounded (omega (arith, after.few, is_line.1, most, ap (λ (b : _). b.finished) same))

    reserve_ranged : (account : ℕ) → reserve_in state account < 2 ^ 127
    reserve_ranged account =
        let book = running.kept.orders.book in
        omega (arith, reserve_of-small account state.book.accepted state.book.markets book.markets, book.few)

    placed_within : (order : NewOrder) → first_of (place_refusals state order) ≡ None → reply.IsOrderNumber (state.book.accepted + 1)
    placed_within order none =
        let room = (accepts state.book order (place_none state order none).0).more in
        (omega arith, omega (arith, room))

    cleared_within : (market budget : ℕ) → reply.IsMarket market → budget ≤ MAX_BUDGET → first_of (batch_refusals state.book market) ≡ None → IsReplyWithin (effect state (Clear market budget)).0
    cleared_within market budget within low none =
        let (m, found, more, unsettled) = finishable state.book market none in
        let batch : Batch = batch_in state market in
        let is = batch_ranged market none in (
          (omega arith, omega (arith, more)),
          within,
          batch_is_within batch is,
          outcomes_are_ranged batch budget is.within low,
        )

    payouts_from : (market : ℕ) (prices : List ℕ) → All IsPaidFrom (payouts_of market prices state.positions)
    payouts_from market prices =
        let P : Position → Type 0 = λ p. IsNumbered p × HasTrader p in
        let both : All P state.positions = λ k d inside. (ranged.positions k d inside, running.holders k d inside) in
        All-map IsPaidFrom (paid_out prices) (held_in market state.positions)
        (All-weaker P (λ p. IsPaidFrom (paid_out prices p)) (λ p h. (h.0.0, h.0.1, h.1, side_of_gain (gain_at prices p))) (held_in market state.positions)
        (All-filter (is_of market) P state.positions both))

    paid_within : (paid : PaidOut) → IsPaidFrom paid → IsPaidOut state.accounts paid → reply.IsPaidWithin paid
    paid_within paid of held = (of.0, of.1, (of.2, open_small state.accounts paid.account ranged.accounts held.account), held.amount, of.3)

    settled_within : (market count : ℕ) (prices : List ℕ) → reply.IsMarket market → All (λ p. p ≤ MAX_SETTLEMENT_PRICE) prices → first_of (close_refusals state.book market count) ≡ None
        → IsReplyWithin (effect state (Settle market count prices)).0
    settled_within market count prices listed within none =
        let (m, found, unsettled, same) = closable state.book market count none in
        let room = (market_kept state.book running.kept.orders.book market m found).room in
        let live : length (live_of state.book market) ≡ length m.live = ap length (live_found market state.book.markets m found) in
        let payouts = payouts_of market (take count prices) state.positions in
        let from = payouts_from market (take count prices) in
        let paid = paid_ranged market count prices within none in
        let all : All reply.IsPaidWithin payouts = λ k d inside. paid_within _ (from k d inside) (paid k d inside) in
        (listed, omega (arith, live, room), recursion_from_All reply.IsPaidWithin payouts all)

    effect_within : (command : Command) → IsWithin command → refusal_of state command ≡ None → IsReplyWithin (effect state command).0
    effect_within (Open account) within none = within
    effect_within (Deposit account amount) within none =
        (within.0, balance_ranged (effect state (Deposit account amount)).1 account refl (effect_ranged (Deposit account amount) within none))
    effect_within (Withdraw account amount) within none =
        (within.0, balance_ranged (effect state (Withdraw account amount)).1 account refl (effect_ranged (Withdraw account amount) within none))
    effect_within (Market market underlyings) within none = within
    effect_within (Trade side account market kind strike price quantity count weights) within none = placed_within (order_by side account market kind strike price quantity count weights) none
    effect_within (Bundle side account market price quantity bundle) within none = placed_within (order_for side account market price quantity bundle) none
    effect_within (Cancel account order) within none = within.1
    effect_within (Clear market budget) within none = cleared_within market budget within.0 within.1.1 (batch_none state.book market none)
    effect_within (Settle market count prices) within none = settled_within market count prices within.0 within.2 (close_none state.book market count none)
    effect_within (Balance account) within none =
        (within, balance_ranged state account refl (effect_ranged (Balance account) within none), reserve_ranged account, omega (arith, ints))

    pub step_within : (command : Command) → IsWithin command → IsReplyWithin (step state command).0
    step_within command within = by (refusal_of state command) refl
      where
        by : (r : Option Refusal) → refusal_of state command ≡ r → IsReplyWithin (option_map_or (refusal_effect state) r (effect state command)).0
        by None none = effect_within command within none
        by (Some refusal) told = refusal_is_told state command refusal told

    -- the reply to what a line says
    pub reply_within : (said : Body) → BodyIsWithin said → HasField said → IsReplyWithin (reply_to state said).0
    reply_within (body.Command command) within field = step_within command within
    reply_within body.Syntax within field = ((omega arith, omega arith), refl)
    reply_within (body.Range place) within field = ((omega arith, omega arith), field)
