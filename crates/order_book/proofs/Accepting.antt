-- What holds where an order meets no refusal.
use Rattle.std.proofs.Common.{◌≡◌, ℕ, ◌+◌, ◌<◌, true, false, not, [], ◌∷◌, Option, None, Some, is_some, nat_eq, length, arith, refl}
use Rattle.std.specs.Prelude.{nat_le}
use Rattle.std.specs.Option.{option_map, option_map_or}
use Rattle.std.proofs.lemmas.Bool.Decides.{nat_tests}
use Rattle.std.proofs.lemmas.Bool.{leb-false, lt-leb, not-false, not-true}
use Rattle.form.specs.declared.limits.TheConstants.{MAX_ORDERS, MAX_ORDER}
use Rattle.form.specs.Bundles.{IsOnCount, is_on_count}
use Rattle.form.proofs.BundleLegs.{on_count-from}
use Rattle.limits.specs.declared.TheConstants.{MAX_MARKETS, MAX_BATCHES}
use Rattle.order_book.specs.declared.new_order.NewOrder.{NewOrder}
use Rattle.order_book.specs.declared.refusal.BookRefusal.TheVariants.{NoMarket, MarketExists, Settled, WeightCount, BookFull, TooMany}
use Rattle.order_book.specs.Markets.{MarketState}
use Rattle.order_book.specs.Book.{BookState, market_of, info_of, is_trading}
use Rattle.order_book.specs.declared.market.MarketInfo.{MarketInfo}
use Rattle.order_book.specs.Refusals.{market_refusals, place_refusals, batch_refusals, live_refusals, close_refusals, has_form_for, is_full}
use Rattle.lists.specs.Refusals.{first_of}
use Rattle.lists.proofs.FirstRefusal.{first_unmet}

pub record Accepts (book : BookState) (order : NewOrder) : Type 0 where
  pub market : MarketState
  pub found : market_of book order.market ≡ Some market
  pub unsettled : market.settled ≡ false
  pub fits : IsOnCount (market.underlyings + 1) order.bundle
  pub room : length market.live < MAX_ORDERS
  pub more : book.accepted < MAX_ORDER

same_count : (a b : ℕ) → not (nat_eq a b) ≡ false → a ≡ b
same_count a b h = grind (arith, nat_tests)

pub accepts : (book : BookState) (order : NewOrder) → first_of (place_refusals book order) ≡ None → Accepts book order
accepts book order none = by (market_of book order.market) refl none
  where
    by : (r : Option MarketState) → market_of book order.market ≡ r
        → first_of ((not (is_some (option_map info_of r)), NoMarket)
        ∷ (option_map_or (λ (found : MarketInfo). found.settled) (option_map info_of r) false, Settled)
        ∷ (option_map_or (λ (found : MarketInfo). not (has_form_for found order)) (option_map info_of r) false, WeightCount)
        ∷ (option_map_or is_full (option_map info_of r) false, BookFull)
        ∷ (nat_le MAX_ORDER book.accepted, TooMany) ∷ []) ≡ None → Accepts book order
    by None e h = cc
    by (Some m) e h =
        let open_market = first_unmet m.settled Settled _ h in
        let right_form = first_unmet (not (is_on_count (m.underlyings + 1) order.bundle)) WeightCount _ open_market.1 in
        let not_full = first_unmet (nat_le MAX_ORDERS (length m.live)) BookFull _ right_form.1 in
        let not_many = first_unmet (nat_le MAX_ORDER book.accepted) TooMany _ not_full.1 in
        record {
          market = m;
          found = e;
          unsettled = open_market.0;
          fits = on_count-from (m.underlyings + 1) order.bundle (not-false (is_on_count (m.underlyings + 1) order.bundle) right_form.0);
          room = leb-false MAX_ORDERS (length m.live) not_full.0;
          more = leb-false MAX_ORDER book.accepted not_many.0;
        }

-- a market whose batch may be finished: it is there and not settled, and there is room for one
-- batch more
pub finishable : (book : BookState) (market : ℕ) → first_of (batch_refusals book market) ≡ None
    → (m : MarketState) × (market_of book market ≡ Some m) × (book.finished < MAX_BATCHES) × (m.settled ≡ false)
finishable book market none = by (market_of book market) refl none
  where
    by : (r : Option MarketState) → market_of book market ≡ r
        → first_of ((not (is_some (option_map info_of r)), NoMarket) ∷ (option_map_or (λ (found : MarketInfo). found.settled) (option_map info_of r) false, Settled)
        ∷ (nat_le MAX_BATCHES book.finished, TooMany) ∷ []) ≡ None
        → (m : MarketState) × (market_of book market ≡ Some m) × (book.finished < MAX_BATCHES) × (m.settled ≡ false)
    by None e h = cc
    by (Some m) e h =
        let unsettled = first_unmet m.settled Settled _ h in
        (m, e, leb-false MAX_BATCHES book.finished (first_unmet (nat_le MAX_BATCHES book.finished) TooMany None unsettled.1).0, unsettled.0)

-- a market whose live orders are told: it is there and not settled
pub listing_live : (book : BookState) (market : ℕ) → first_of (live_refusals book market) ≡ None → (m : MarketState) × (market_of book market ≡ Some m) × (m.settled ≡ false)
listing_live book market none = by (market_of book market) refl none
  where
    by : (r : Option MarketState) → market_of book market ≡ r
        → first_of ((not (is_some (option_map info_of r)), NoMarket) ∷ (option_map_or (λ (found : MarketInfo). found.settled) (option_map info_of r) false, Settled) ∷ []) ≡ None
        → (m : MarketState) × (market_of book market ≡ Some m) × (m.settled ≡ false)
    by None e h = cc
    by (Some m) e h = (m, e, (first_unmet m.settled Settled None h).0)

-- a market may be cleared where it is there, not settled, and there is room for a batch
pub unrefused : (book : BookState) (market : ℕ) → is_trading book market ≡ true → book.finished < MAX_BATCHES → first_of (batch_refusals book market) ≡ None
unrefused book market trading more = by (market_of book market) trading
  where
    by : (r : Option MarketState) → option_map_or (λ (found : MarketInfo). not found.settled) (option_map info_of r) false ≡ true
        → first_of ((not (is_some (option_map info_of r)), NoMarket) ∷ (option_map_or (λ (found : MarketInfo). found.settled) (option_map info_of r) false, Settled)
        ∷ (nat_le MAX_BATCHES book.finished, TooMany) ∷ []) ≡ None
    by None h = cc
    by (Some m) h = rw (not-true m.settled h, lt-leb MAX_BATCHES book.finished more) refl

-- a market that may be settled at so many prices: it is there, not settled, and on as many
-- underlyings
pub closable : (book : BookState) (market prices : ℕ) → first_of (close_refusals book market prices) ≡ None
    → (m : MarketState) × (market_of book market ≡ Some m) × (m.settled ≡ false) × (prices ≡ m.underlyings)
closable book market prices none = by (market_of book market) refl none
  where
    by : (r : Option MarketState) → market_of book market ≡ r
        → first_of ((not (is_some (option_map info_of r)), NoMarket) ∷ (option_map_or (λ (found : MarketInfo). found.settled) (option_map info_of r) false, Settled)
        ∷ (option_map_or (λ (found : MarketInfo). not (nat_eq prices found.underlyings)) (option_map info_of r) false, WeightCount) ∷ []) ≡ None
        → (m : MarketState) × (market_of book market ≡ Some m) × (m.settled ≡ false) × (prices ≡ m.underlyings)
    by None e h = cc
    by (Some m) e h =
        let unsettled = first_unmet m.settled Settled _ h in
        (m, e, unsettled.0, same_count prices m.underlyings (first_unmet (not (nat_eq prices m.underlyings)) WeightCount None unsettled.1).0)

-- a market that is not settled is there
pub trading_found : (book : BookState) (market : ℕ) → is_trading book market ≡ true → (m : MarketState) × (market_of book market ≡ Some m)
trading_found book market trading = by (market_of book market) refl trading
  where
    by : (r : Option MarketState) → market_of book market ≡ r → option_map_or (λ (found : MarketInfo). not found.settled) (option_map info_of r) false ≡ true → (m : MarketState) × (market_of book market ≡ Some m)
    by None e h = cc
    by (Some m) e h = (m, e)

-- a market that may be listed: no other has its number, and there is room for it
pub listable : (book : BookState) (market : ℕ) → first_of (market_refusals book market) ≡ None → (market_of book market ≡ None) × (length book.markets < MAX_MARKETS)
listable book market none = by (market_of book market) refl none
  where
    by : (r : Option MarketState) → market_of book market ≡ r → first_of ((is_some (option_map info_of r), MarketExists) ∷ (nat_le MAX_MARKETS (length book.markets), TooMany) ∷ []) ≡ None
        → (market_of book market ≡ None) × (length book.markets < MAX_MARKETS)
    by None e h = (e, leb-false MAX_MARKETS (length book.markets) (first_unmet (nat_le MAX_MARKETS (length book.markets)) TooMany None h).0)
    by (Some m) e h = cc
