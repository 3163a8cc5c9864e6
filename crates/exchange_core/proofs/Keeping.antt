-- What an exchange keeps stays true at each command.
use Rattle.std.proofs.Common.{◌≡◌, ℕ, ◌+◌, ◌*◌, ◌≤◌, ℤ, pos, unsigned_abs, map, List, [], ◌∷◌, ◌++◌, take, true, nat_eq, Option, None, Some, refl, sym, ap, subst, arith}
use Rattle.std.specs.List.{All, sum}
use Rattle.std.specs.Prelude.{unwrap_or}
use Rattle.std.specs.Option.{option_map_or}
use Rattle.std.proofs.lemmas.List.{length-take}
use Rattle.std.proofs.lemmas.List.Elements.{All-cons, All-nil, All-push, All-take}
use Rattle.std.proofs.lemmas.Map.Keys.{IsDistinct-from_apart}
use Rattle.cash_ledger.specs.Ledger.{is_open}
use Rattle.clearing.proofs.Outcomes.{outcomes_are_within}
use Rattle.clearing.specs.Outcome.{outcome_of}
use Rattle.form.specs.declared.orders.Side.{Side}
use Rattle.form.specs.Limits.{IsListed}
use Rattle.form.specs.declared.bundles.Bundle.{Bundle}
use Rattle.form.specs.declared.legs.Leg.{Leg}
use Rattle.form.specs.declared.limits.TheConstants.{MAX_OPTIONS, MAX_PRICE, MAX_QUANTITY, MAX_UNDERLYINGS}
use Rattle.form.specs.BundleOf.{bundle_one}
use Rattle.form.specs.FormOf.{form_of}
use Rattle.form.specs.Payoff.{count_sizes, option_of}
use Rattle.form.proofs.MadeBundles.{legs_in-bundle_one}
use Rattle.order_book.specs.declared.new_order.NewOrder.{NewOrder}
use Rattle.order_book.specs.Book.{BookState, market_of, live_of, with_number, with_market, with_order, without_order, after_batch, after_close}
use Rattle.order_book.specs.Kept.{IsMarketKept}
use Rattle.order_book.specs.Markets.{MarketState, settled_market, live_orders, with_live}
use Rattle.order_book.specs.Refusals.{market_refusals, place_refusals as book_place_refusals, batch_refusals}
use Rattle.lists.specs.Refusals.{first_of}
use Rattle.order_book.specs.Within.{IsNewOrderWithin}
use Rattle.order_book.proofs.Accepting.{listable, accepts, finishable, closable}
use Rattle.order_book.proofs.AllLive.{live-with_market}
use Rattle.order_book.proofs.BookKept.{kept-with_market, kept-with_order, kept-without_order, kept-after_batch, kept-after_close}
use Rattle.command_text.specs.declared.command.Command.{Command}
use Rattle.command_text.specs.declared.command.Command.TheVariants.{Open, Deposit, Withdraw, Market, Trade, Bundle as BundleOrder, Cancel, Clear, Settle, Balance}
use Rattle.command_text.specs.declared.command.Kind.{Kind}
use Rattle.exchange_core.specs.declared.refusal.Refusal.{Refusal}
use Rattle.exchange_core.specs.ExchangeState.{ExchangeState, empty_exchange}
use Rattle.exchange_core.specs.Kept.{AreOrdersKept, IsKept, IsOfOpen, IsPositionKept}
use Rattle.exchange_core.specs.Laws.{ClearsKeep, StepKeeps}
use Rattle.command_text.specs.Options.{option_by}
use Rattle.exchange_core.specs.Orders.{order_by, order_for, order_of}
use Rattle.exchange_core.specs.Refusals.{place_refusals, refusal_of, refusals}
use Rattle.exchange_core.specs.Step.{batch_in, place_effect, effect, refusal_effect}
use Rattle.command_text.specs.Within.{IsWithin, IsOffer, IsBundleOf}
use Rattle.form.specs.Between.{Between}
use Rattle.command_text.proofs.Listing.{IsSmall, form_listed}
use Rattle.exchange_core.proofs.FirstRefusal.{market_none, place_none, batch_none, close_none}
use Rattle.exchange_core.proofs.Covered.{batch_is_within}
use Rattle.exchange_core.proofs.NewPositions.{cleared-kept}
use Rattle.exchange_core.proofs.LiveAccounts.{All-live_in, All-replaced, All-without_in_each, any-push, stay_open}
use Rattle.exchange_core.proofs.PositionsKept.{positions-open, positions-market, positions-live, positions-cancel, positions-closed}

pub empty_is_kept : IsKept empty_exchange
empty_is_kept = record {
  orders = record {
    house = refl;
    accounts = All-nil (IsOfOpen (0 ∷ []));
    book = record { few = omega arith; distinct = IsDistinct-from_apart nat_eq [] (λ i j d before inside. absurd (omega arith)); markets = All-nil (λ (m : ℕ × MarketState). IsMarketKept 0 m.1); numbers = λ number. omega arith; accepted = omega arith; finished = omega arith };
  };
  positions = All-nil (IsPositionKept (0 ∷ []) []);
}

-- ---- by what changes
module _ (accounts : List ℕ) (book : BookState) (kept : AreOrdersKept accounts book) where
  pub kept-open : (account : ℕ) → AreOrdersKept (accounts ++ account ∷ []) book
  kept-open account = record {
    house = any-push 0 accounts account kept.house;
    accounts = stay_open accounts account (live_orders book.markets) kept.accounts;
    book = kept.book;
  }

  pub kept-market : (market underlyings : ℕ) → first_of (market_refusals book market) ≡ None → Between 1 MAX_UNDERLYINGS underlyings → AreOrdersKept accounts (with_market book market underlyings)
  kept-market market underlyings none within =
      let free = listable book market none in
      record {
        house = kept.house;
        accounts = subst (All (IsOfOpen accounts)) (sym (live-with_market market underlyings book.markets)) kept.accounts;
        book = kept-with_market book kept.book market underlyings free.0 within.0 within.1 free.1;
      }

  pub kept-place : (order : NewOrder) → IsNewOrderWithin order → first_of (book_place_refusals book order) ≡ None → is_open accounts order.account ≡ true → AreOrdersKept accounts (with_order book order)
  kept-place order within none held =
      let IsOf = IsOfOpen accounts in
      let new = with_number (book.accepted + 1) order in
      let live = live_of book order.market in
      record {
        house = kept.house;
        accounts = All-replaced IsOf order.market (λ m. with_live m (live ++ new ∷ [])) (live ++ new ∷ []) (λ m. refl) book.markets kept.accounts
            (All-push IsOf live new (All-live_in IsOf order.market book.markets kept.accounts) held);
        book = kept-with_order book kept.book order within (accepts book order none);
      }

  pub kept-cancel : (number : ℕ) → AreOrdersKept accounts (without_order book number)
  kept-cancel number = record {
    house = kept.house;
    accounts = All-without_in_each (IsOfOpen accounts) number book.markets kept.accounts;
    book = kept-without_order book kept.book number;
  }

  pub kept-batch : (market : ℕ) → first_of (batch_refusals book market) ≡ None → AreOrdersKept accounts (after_batch book market)
  kept-batch market none =
      let (m, found, more, unsettled) = finishable book market none in
      record {
        house = kept.house;
        accounts = All-replaced (IsOfOpen accounts) market (λ m. with_live m []) [] (λ m. refl) book.markets kept.accounts (All-nil (IsOfOpen accounts));
        book = kept-after_batch book kept.book market m found more;
      }

  pub kept-close : (market : ℕ) (m : MarketState) → market_of book market ≡ Some m → AreOrdersKept accounts (after_close book market)
  kept-close market m found = record {
    house = kept.house;
    accounts = All-replaced (IsOfOpen accounts) market settled_market [] (λ m. refl) book.markets kept.accounts (All-nil (IsOfOpen accounts));
    book = kept-after_close book kept.book market m found;
  }

-- ---- the order of a trade or for a bundle is within the limits
pub order_within : (side : Side) (account market : ℕ) (kind : Kind) (strike : ℤ) (price quantity count : ℕ) (weights : List ℤ) → IsOffer strike price quantity count weights
    → IsNewOrderWithin (order_by side account market kind strike price quantity count weights)
order_within side account market kind strike price quantity count weights offer =
    let used = take count weights in
    let form = form_of (option_by kind strike used) in
    let few = length-take count weights in
    let most = offer.count_within.1 in
    let listed = form_listed kind strike used (omega (arith, few)) offer.strike_within (All-take IsSmall count weights offer.weights_within) offer.some in
    let is = legs_in-bundle_one form in
    let one : count_sizes (bundle_one form) ≡ 1 = ap (λ legs. sum (map (λ (leg : Leg). unsigned_abs leg.count) legs)) is in
    let P : Leg → Type 0 = λ leg. IsListed (option_of leg.form) in
    record {
      options = subst (All P) (sym is) (All-cons P (record { count = pos 1; form = form }) [] listed (All-nil P));
      price = offer.price_within;
      some = offer.quantity_within.0;
      quantity = offer.quantity_within.1;
      counted = subst (λ n. quantity * n ≤ MAX_OPTIONS) (sym one) (omega (arith, offer.quantity_within.1));
    }

pub bundle_within : (side : Side) (account market price quantity : ℕ) (bundle : Bundle) → price ≤ MAX_PRICE → Between 1 MAX_QUANTITY quantity → IsBundleOf quantity bundle
    → IsNewOrderWithin (order_for side account market price quantity bundle)
bundle_within side account market price quantity bundle low between is = record {
  options = is.options;
  price = low;
  some = between.0;
  quantity = between.1;
  counted = is.limited;
}

-- the order that a command places is within the limits, and its refusals and its effect are the
-- command's
pub record Places (state : ExchangeState) (command : Command) (order : NewOrder) : Type 0 where
  pub within : IsNewOrderWithin order
  pub refused : place_refusals state order ≡ refusals state command
  pub done : place_effect state order ≡ effect state command

pub places_of : (state : ExchangeState) (command : Command) (order : NewOrder) → IsWithin command → order_of command ≡ Some order → Places state command order
places_of state (Trade side account market kind strike price quantity count weights) order within is =
    subst (Places state (Trade side account market kind strike price quantity count weights)) (ap (λ (o : Option NewOrder). unwrap_or o order) is)
    (record { within = order_within side account market kind strike price quantity count weights within.2; refused = refl; done = refl })
places_of state (BundleOrder side account market price quantity bundle) order within is =
    subst (Places state (BundleOrder side account market price quantity bundle)) (ap (λ (o : Option NewOrder). unwrap_or o order) is)
    (record { within = bundle_within side account market price quantity bundle within.2 within.3 within.4; refused = refl; done = refl })
places_of state (Open account) order within is = cc
places_of state (Deposit account amount) order within is = cc
places_of state (Withdraw account amount) order within is = cc
places_of state (Market market underlyings) order within is = cc
places_of state (Cancel account number) order within is = cc
places_of state (Clear market budget) order within is = cc
places_of state (Settle market count prices) order within is = cc
places_of state (Balance account) order within is = cc

-- ---- a batch that is cleared with these fills
pub clears_keep : ClearsKeep
clears_keep state market fills kept none allowed =
    let told = batch_none state.book market none in
    record {
      orders = kept-batch state.accounts state.book kept.orders market told;
      positions = cleared-kept state kept market told fills allowed;
    }

-- ---- the step
module _ (state : ExchangeState) (kept : IsKept state) where
  pub kept-trade : (order : NewOrder) → IsNewOrderWithin order → first_of (place_refusals state order) ≡ None → IsKept (place_effect state order).1
  kept-trade order within none =
      let parts = place_none state order none in
      record {
        orders = kept-place state.accounts state.book kept.orders order within parts.0 parts.1;
        positions = positions-live state.accounts order.market _ state.book.markets state.positions kept.positions;
      }

  kept-effect : (command : Command) → IsWithin command → refusal_of state command ≡ None → IsKept (effect state command).1
  kept-effect (Open account) within none = record {
    orders = kept-open state.accounts state.book kept.orders account;
    positions = positions-open state.accounts account state.book.markets state.positions kept.positions;
  }
  kept-effect (Deposit account amount) within none = record { orders = kept.orders; positions = kept.positions }
  kept-effect (Withdraw account amount) within none = record { orders = kept.orders; positions = kept.positions }
  kept-effect (Market market underlyings) within none =
      record {
        orders = kept-market state.accounts state.book kept.orders market underlyings (market_none state.book market none) within.1;
        positions = positions-market state.accounts state.book.markets _ state.positions kept.positions;
      }
  kept-effect (Trade side account market kind strike price quantity count weights) within none =
      kept-trade (order_by side account market kind strike price quantity count weights) (order_within side account market kind strike price quantity count weights within.2) none
  kept-effect (BundleOrder side account market price quantity bundle) within none =
      kept-trade (order_for side account market price quantity bundle) (bundle_within side account market price quantity bundle within.2 within.3 within.4) none
  kept-effect (Cancel account order) within none = record {
    orders = kept-cancel state.accounts state.book kept.orders order;
    positions = positions-cancel state.accounts order state.book.markets state.positions kept.positions;
  }
  kept-effect (Clear market budget) within none =
      clears_keep state market (outcome_of (batch_in state market) budget).fills kept none
      (outcomes_are_within (batch_in state market) budget (batch_is_within state kept market none))
  kept-effect (Settle market count prices) within none =
      let (m, found, unsettled, same) = closable state.book market count (close_none state.book market count none) in
      record {
        orders = kept-close state.accounts state.book kept.orders market m found;
        positions = positions-closed state.accounts market state.book.markets state.positions kept.positions;
      }
  kept-effect (Balance account) within none = kept

pub step_keeps : StepKeeps
step_keeps state command kept within = by (refusal_of state command) refl
  where
    by : (r : Option Refusal) → refusal_of state command ≡ r → IsKept (option_map_or (refusal_effect state) r (effect state command)).1
    by None none = kept-effect state kept command within none
    by (Some refusal) told = kept
