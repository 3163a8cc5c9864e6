-- A book that is kept stays so at each call.
use Rattle.std.proofs.Common.{◌≡◌, ℕ, zero, suc, ◌+◌, ◌≤◌, ◌<◌, Bool, true, false, not, List, [], ◌∷◌, ◌++◌, length, map, None, Some, IfSome, IsSome, is_some, if◌then◌else◌, slice_get, nat_eq, refl, ap, sym, subst, ◌∙◌, arith, length-append, true≢false}
use Rattle.std.specs.Cmp.{nat_eq_equiv}
use Rattle.std.specs.List.{All, IsDistinct, find}
use Rattle.std.specs.List.Sorted.{IsStrictlyIncreasing}
use Rattle.std.specs.Map.{keys_of}
use Rattle.std.proofs.lemmas.Bool.Decides.{nat_tests}
use Rattle.std.proofs.lemmas.List.{length-map, map-append}
use Rattle.std.proofs.lemmas.List.Elements.{All-nil, All-head, All-tail, All-push, All-weaker, All-filter, All-map}
use Rattle.std.proofs.lemmas.Map.Keys.{IsDistinct-push}
use Rattle.std.proofs.lemmas.Map.Made.{is_some-lookup}
use Rattle.arithmetic.proofs.Lists.{rise_push}
use Rattle.form.specs.declared.limits.TheConstants.{MAX_UNDERLYINGS, MAX_ORDER}
use Rattle.form.specs.declared.orders.Order.{Order}
use Rattle.form.specs.Bundles.{IsOnCount}
use Rattle.form.specs.Limits.{IsOrderWithin, IsWithinLimits}
use Rattle.limits.specs.declared.TheConstants.{MAX_MARKETS, MAX_BATCHES}
use Rattle.order_book.specs.declared.new_order.NewOrder.{NewOrder}
use Rattle.order_book.specs.Markets.{MarketState, Markets, settled_market, has_number, changed_in, live_in, live_orders, with_live, with_live_in, without, without_in_each}
use Rattle.order_book.specs.Numbers.{number_count, AreNumberedApart}
use Rattle.order_book.specs.Book.{BookState, market_of, batch_of, with_market, with_number, with_order, without_order, after_batch, after_close}
use Rattle.order_book.specs.Within.{IsNewOrderWithin}
use Rattle.order_book.specs.Kept.{IsLive, IsMarketKept, IsBookKept}
use Rattle.order_book.proofs.Accepting.{Accepts}
use Rattle.order_book.proofs.AllLive.{live-with_market, live-without_in_each, sum-replaced, none_fresh}
use Rattle.order_book.proofs.LiveOrders.{length_without, rise_without, find_none, number_count-append, number_count-without, none_counted, fresh_counted}
use Rattle.order_book.proofs.MarketLists.{live_found, at_found, all_changed, keys_changed, length_changed}

abbrev number_of : Order → ℕ
number_of order = order.id

pub weaker : (n m u : ℕ) → n ≤ m → (orders : List Order) → All (IsLive u n) orders → All (IsLive u m) orders
weaker n m u le orders all = All-weaker (IsLive u n) (IsLive u m) (λ o l. let bound = l.number in record { within = l.within; forms = l.forms; some = l.some; number = omega arith }) orders all

later_kept : (n m : ℕ) → n ≤ m → (s : MarketState) → IsMarketKept n s → IsMarketKept m s
later_kept n m le s k = record { some = k.some; few = k.few; room = k.room; rise = k.rise; live = weaker n m s.underlyings le s.live k.live; settled = k.settled }

at_place : (place : ℕ) (orders : List Order) → All IsOrderWithin orders → IfSome (slice_get orders place) IsOrderWithin
at_place place [] all = tt
at_place zero (o ∷ orders) all = All-head IsOrderWithin o orders all
at_place (suc place) (o ∷ orders) all = at_place place orders (All-tail IsOrderWithin o orders all)

-- the live orders of a market are within the limits
pub orders_within : (accepted : ℕ) (m : MarketState) → IsMarketKept accepted m → All IsOrderWithin m.live
orders_within accepted m k = All-weaker (IsLive m.underlyings accepted) IsOrderWithin (λ o l. l.within) m.live k.live

-- they are a batch within the limits
pub batch_within : (accepted : ℕ) (m : MarketState) → IsMarketKept accepted m → IsWithinLimits (batch_of m)
batch_within accepted m k = record {
  has_forms = record { some = k.some; few = k.few; forms = All-weaker (IsLive m.underlyings accepted) (λ (o : Order). IsOnCount (m.underlyings + 1) o.bundle) (λ o l. l.forms) m.live k.live };
  orders_fit = k.room;
  ids_rise = k.rise;
  orders_within = orders_within accepted m k;
}

-- a market without one of its orders
taken_market : (accepted number : ℕ) (m : MarketState) → IsMarketKept accepted m → IsMarketKept accepted (with_live m (without number m.live))
taken_market accepted number m k =
    let few = k.room in
    let short = length_without number m.live in
    record {
      some = k.some;
      few = k.few;
      room = omega arith;
      rise = rise_without number m.live k.rise;
      live = All-filter (λ o. not (has_number number o)) (IsLive m.underlyings accepted) m.live k.live;
      settled = λ is. ap (without number) (k.settled is);
    }

pub keys_taken : (number : ℕ) (markets : Markets) → keys_of (without_in_each number markets) ≡ keys_of markets
keys_taken number [] = refl
keys_taken number (m ∷ markets) = ap (λ (ks : List ℕ). m.0 ∷ ks) (keys_taken number markets)

module _ (book : BookState) (kept : IsBookKept book) where
  abbrev IsOneKept : ℕ × MarketState → Type 0
  IsOneKept e = IsMarketKept book.accepted e.1

  pub market_kept : (market : ℕ) (m : MarketState) → market_of book market ≡ Some m → IsMarketKept book.accepted m
  market_kept market m found = at_found market IsOneKept book.markets m found kept.markets

  -- no order of a market has the number that comes next
  pub next_unused : (market : ℕ) (m : MarketState) → market_of book market ≡ Some m → find (has_number (book.accepted + 1)) (live_in market book.markets) ≡ None
  next_unused market m found =
      let live = (market_kept market m found).live in
      ap (find (has_number (book.accepted + 1))) (live_found market book.markets m found)
      ∙ find_none (book.accepted + 1) m.live (none_counted (book.accepted + 1) m.live (fresh_counted m.underlyings book.accepted m.live live))

  -- each live order is within the limits
  pub live_within : (market place : ℕ) (m : MarketState) → market_of book market ≡ Some m → IfSome (slice_get m.live place) IsOrderWithin
  live_within market place m found = at_place place m.live (orders_within book.accepted m (market_kept market m found))

  -- one market changed
  module _ (market : ℕ) (m : MarketState) (found : market_of book market ≡ Some m) where
    changed_markets : (change : MarketState → MarketState) (accepted : ℕ) → book.accepted ≤ accepted → IsMarketKept accepted (change m) → All (λ (e : ℕ × MarketState). IsMarketKept accepted e.1) (changed_in change market book.markets)
    changed_markets change accepted le one =
        all_changed market IsOneKept (λ e. IsMarketKept accepted e.1) (λ e ne k. later_kept book.accepted accepted le e.1 k)
        change book.markets m kept.distinct found (λ _. one) kept.markets

    changed_book : (change : MarketState → MarketState) (accepted finished : ℕ) → book.accepted ≤ accepted → accepted ≤ MAX_ORDER → finished ≤ MAX_BATCHES → IsMarketKept accepted (change m)
        → AreNumberedApart (live_orders (changed_in change market book.markets))
        → IsBookKept (record { markets = changed_in change market book.markets; accepted = accepted; finished = finished })
    changed_book change accepted finished le few few_batches one apart =
        let long = length_changed market change book.markets m found in
        let short = kept.few in
        record {
          few = omega arith;
          distinct = subst (IsDistinct nat_eq) (sym (keys_changed market change book.markets m found)) kept.distinct;
          markets = changed_markets change accepted le one;
          numbers = apart;
          accepted = few;
          finished = few_batches;
        }

    -- without live orders, settled or not
    emptied : (settled : Bool) → IsMarketKept book.accepted (record { underlyings = m.underlyings; settled = settled; live = [] })
    emptied settled =
        let k = market_kept market m found in
        record { some = k.some; few = k.few; room = omega arith; rise = (λ i h. absurd (omega arith)); live = All-nil (IsLive m.underlyings book.accepted); settled = λ is. refl }

    emptied_book : (change : MarketState → MarketState) (finished : ℕ) → ((s : MarketState) → (change s).live ≡ []) → finished ≤ MAX_BATCHES → IsMarketKept book.accepted (change m)
        → IsBookKept (record { markets = changed_in change market book.markets; accepted = book.accepted; finished = finished })
    emptied_book change finished none few_batches one =
        changed_book change book.accepted finished (omega arith) kept.accepted few_batches one
        (λ q. omega (arith, sum-replaced (number_count q) (number_count-append q) market change [] none book.markets (subst IsSome (sym found) refl), kept.numbers q))

    pub kept-after_batch : book.finished < MAX_BATCHES → IsBookKept (after_batch book market)
    kept-after_batch more = emptied_book (λ s. with_live s []) (book.finished + 1) (λ s. refl) (omega arith) (emptied m.settled)

    pub kept-after_close : IsBookKept (after_close book market)
    kept-after_close = emptied_book settled_market book.finished (λ s. refl) kept.finished (emptied true)

  pub kept-with_market : (market underlyings : ℕ) → market_of book market ≡ None → 1 ≤ underlyings → underlyings ≤ MAX_UNDERLYINGS → length book.markets < MAX_MARKETS → IsBookKept (with_market book market underlyings)
  kept-with_market market underlyings fresh some few room =
      let s : MarketState = record { underlyings = underlyings; settled = false; live = [] } in
      let long = length-append book.markets ((market, s) ∷ []) in
      let keys = map-append (λ (e : ℕ × MarketState). e.0) book.markets ((market, s) ∷ []) in
      let absent = sym (is_some-lookup (nat_eq market) book.markets) ∙ ap is_some fresh in
      record {
        few = omega arith;
        distinct = subst (IsDistinct nat_eq) (sym keys) (IsDistinct-push nat_eq_equiv (keys_of book.markets) market kept.distinct absent);
        markets = All-push IsOneKept book.markets (market, s) kept.markets
            (record { some = some; few = few; room = omega arith; rise = (λ k h. absurd (omega arith)); live = All-nil (IsLive underlyings book.accepted); settled = λ is. refl });
        numbers = λ q. omega (arith, ap (number_count q) (live-with_market market underlyings book.markets), kept.numbers q);
        accepted = kept.accepted;
        finished = kept.finished;
      }

  module _ (order : NewOrder) (within : IsNewOrderWithin order) (a : Accepts book order) where
    placed_market : (live : List Order) → live ≡ a.market.live → IsMarketKept (book.accepted + 1) (with_live a.market (live ++ with_number (book.accepted + 1) order ∷ []))
    placed_market live is =
        let m = a.market in
        let fresh = with_number (book.accepted + 1) order in
        let k = market_kept order.market m a.found in
        let long = length-append m.live (fresh ∷ []) in
        let few = k.room in
        let room = a.room in
        let below = All-map (λ x. x < book.accepted + 1) number_of m.live (All-weaker (IsLive m.underlyings book.accepted) (λ o. o.id < book.accepted + 1) (λ o l. let bound = l.number in omega arith) m.live k.live) in
        rw is (record {
          some = k.some;
          few = k.few;
          room = omega arith;
          rise = subst IsStrictlyIncreasing (sym (map-append number_of m.live (fresh ∷ []))) (rise_push (map number_of m.live) (book.accepted + 1) k.rise below);
          live = All-push (IsLive m.underlyings (book.accepted + 1)) m.live fresh (weaker book.accepted (book.accepted + 1) m.underlyings (omega arith) m.live k.live)
              (record { within = record { options = within.options; price = within.price; some = within.some; quantity = within.quantity; counted = within.counted }; forms = a.fits; some = omega arith; number = omega arith });
          settled = λ settled. absurd (true≢false (sym settled ∙ a.unsettled));
        })

    placed_numbers : (q : ℕ) → number_count q (live_orders (with_live_in order.market (live_in order.market book.markets ++ with_number (book.accepted + 1) order ∷ []) book.markets)) ≤ 1
    placed_numbers q =
        let live = live_in order.market book.markets in
        by (nat_eq q (book.accepted + 1)) refl (number_count-append q live (with_number (book.accepted + 1) order ∷ []))
        (sum-replaced (number_count q) (number_count-append q) order.market (λ s. with_live s (live ++ with_number (book.accepted + 1) order ∷ [])) (live ++ with_number (book.accepted + 1) order ∷ []) (λ s. refl) book.markets (subst IsSome (sym a.found) refl))
      where
        none : nat_eq q (book.accepted + 1) ≡ true → number_count q (live_orders book.markets) ≡ 0
        none same =
            let next : q ≡ book.accepted + 1 = grind (arith, nat_tests) in
            ap (λ n. number_count n (live_orders book.markets)) next ∙ none_fresh book.accepted book.markets kept.markets

        by : (b : Bool) → nat_eq q (book.accepted + 1) ≡ b
            → number_count q (live_in order.market book.markets ++ with_number (book.accepted + 1) order ∷ []) ≡ number_count q (live_in order.market book.markets) + ((if b then 1 else 0) + 0)
            → number_count q (live_orders (with_live_in order.market (live_in order.market book.markets ++ with_number (book.accepted + 1) order ∷ []) book.markets)) + number_count q (live_in order.market book.markets)
            ≡ number_count q (live_orders book.markets) + number_count q (live_in order.market book.markets ++ with_number (book.accepted + 1) order ∷ [])
            → number_count q (live_orders (with_live_in order.market (live_in order.market book.markets ++ with_number (book.accepted + 1) order ∷ []) book.markets)) ≤ 1
        by true same last s = omega (arith, none same, last, s)
        by false other last s = omega (arith, kept.numbers q, last, s)

    pub kept-with_order : IsBookKept (with_order book order)
    kept-with_order =
        let more = a.more in
        let is = live_found order.market book.markets a.market a.found in
        changed_book order.market a.market a.found (λ s. with_live s (live_in order.market book.markets ++ with_number (book.accepted + 1) order ∷ [])) (book.accepted + 1) book.finished (omega arith) (omega arith) kept.finished (placed_market _ is) placed_numbers

  pub kept-without_order : (number : ℕ) → IsBookKept (without_order book number)
  kept-without_order number =
      let taken : ℕ × MarketState → ℕ × MarketState = λ m. (m.0, with_live m.1 (without number m.1.live)) in
      let few = kept.few in
      let long = length-map book.markets taken in
      record {
        few = omega arith;
        distinct = subst (IsDistinct nat_eq) (sym (keys_taken number book.markets)) kept.distinct;
        markets = All-map IsOneKept taken book.markets (All-weaker IsOneKept (λ e. IsOneKept (taken e)) (λ e k. taken_market book.accepted number e.1 k) book.markets kept.markets);
        numbers = λ q. omega (arith, ap (number_count q) (live-without_in_each number book.markets), number_count-without q number (live_orders book.markets), kept.numbers q);
        accepted = kept.accepted;
        finished = kept.finished;
      }
