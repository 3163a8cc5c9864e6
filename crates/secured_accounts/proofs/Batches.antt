-- A balance that is enough for all markets of an account stays so as a market is cleared, with
-- whatever fills, and as it is settled, at whatever prices.
use Rattle.std.proofs.Common.{◌≡◌, ℕ, ◌+◌, ◌≤◌, Bool, true, false, List, [], map, filter, length, take, Some, None, if◌then◌else◌, nat_eq, arith, ℤ, pos, ◌+ℤ◌, refl, sym, ap, subst, ◌∙◌, length-take-le}
use Rattle.std.specs.List.{All}
use Rattle.std.specs.Map.{keys_of}
use Rattle.std.proofs.lemmas.Int.{ints}
use Rattle.std.proofs.lemmas.List.Elements.{All-take, filter-append}
use Rattle.std.proofs.lemmas.Bool.{eqb-true}
use Rattle.arithmetic.proofs.Tests.{nat_eq-turned}
use Rattle.cash_ledger.specs.Entries.{balance_of}
use Rattle.cash_ledger.proofs.Balances.{balance_of-append}
use Rattle.clearing_model.specs.Certificate.{AreFractionFills}
use Rattle.command_text.specs.declared.command.Command.TheVariants.{Settle}
use Rattle.frac.specs.declared.frac128.Frac128.{Frac128}
use Rattle.frac.specs.Value.{fraction_of}
use Rattle.limits.specs.declared.TheConstants.{MAX_SETTLEMENT_PRICE}
use Rattle.lists.specs.Refusals.{first_of}
use Rattle.order_book.specs.Book.{market_of}
use Rattle.order_book.specs.Markets.{MarketState, changed_in, settled_market, with_live}
use Rattle.order_book.specs.Refusals.{batch_refusals}
use Rattle.order_book.proofs.Accepting.{closable, finishable}
use Rattle.order_book.proofs.LiveElsewhere.{live-changed}
use Rattle.order_book.proofs.MarketLists.{keys_changed, live_found}
use Rattle.exchange_core.specs.ExchangeState.{ExchangeState}
use Rattle.exchange_core.specs.Held.{is_held_by, is_order_of, positions_of}
use Rattle.exchange_core.specs.Kept.{IsKept}
use Rattle.exchange_core.specs.Positions.{positions_in}
use Rattle.exchange_core.specs.Premiums.{premium_entries}
use Rattle.exchange_core.specs.Refusals.{by_book, refusal_of}
use Rattle.exchange_core.specs.Step.{batch_in, cleared_with, settle_effect}
use Rattle.exchange_core.proofs.FirstRefusal.{batch_none, close_none}
use Rattle.exchange_core.proofs.NewPositions.{live_batch}
use Rattle.exchange_core.proofs.SettledBalances.{balance_settled, held_apart}
use Rattle.account_need.specs.Exposure.{IsEnough, Portfolio}
use Rattle.account_need.specs.Moves.{IsCleared, IsSettled, gains_at, premiums_got}
use Rattle.account_need.proofs.Clears.{clears_keep}
use Rattle.account_need.proofs.Settles.{settlements_keep}
use Rattle.secured_accounts.specs.Secured.{part_in}
use Rattle.secured_accounts.proofs.Effects.{IsCovered, carried, same_part, still}
use Rattle.secured_accounts.proofs.Markets.{found_changed, paid_in, paid_once, underlyings-changed, underlyings_of}
use Rattle.secured_accounts.proofs.OwnFills.{all_filled, as_filled, own_filled, own_fills, own_orders, premiums}
use Rattle.secured_accounts.proofs.ListsOfOne.{held_elsewhere, none_outside}

module _ (account : ℕ) (some : 1 ≤ account) (state : ExchangeState) (kept : IsKept state) where
  -- ---- one market moves, and the account is paid so much there
  module _ (market : ℕ) (after : ExchangeState) (m : MarketState) (found : market_of state.book market ≡ Some m) (amount : ℤ)
      (keys : keys_of after.book.markets ≡ keys_of state.book.markets)
      (balance : balance_of account after.entries ≡ balance_of account state.entries +ℤ amount)
      (here : (x : ℤ) → IsEnough (part_in state account market) x → IsEnough (part_in after account market) (x +ℤ amount))
      (others : (n : ℕ) → nat_eq n market ≡ false → part_in after account n ≡ part_in state account n) where
    keeps : (n : ℕ) (x : ℤ) → IsEnough (part_in state account n) x → IsEnough (part_in after account n) (x +ℤ paid_in market amount n)
    keeps n x = by (nat_eq n market) refl
      where
        by : (b : Bool) → nat_eq n market ≡ b → IsEnough (part_in state account n) x → IsEnough (part_in after account n) (x +ℤ (if b then amount else pos 0))
        by true at e =
            let own = eqb-true n market at in
            subst (λ (k : ℕ). IsEnough (part_in after account k) (x +ℤ amount)) (sym own) (here x (subst (λ (k : ℕ). IsEnough (part_in state account k) x) own e))
        by false at e = still (part_in after account n) x (subst (λ (p : Portfolio). IsEnough p x) (sym (others n at)) e)

    one_moves : IsCovered account state → IsCovered account after
    one_moves s =
        let once = paid_once market amount state.book.markets m kept.orders.book.distinct found in
        carried account state after (paid_in market amount) keys (omega (arith, ints, balance, once)) keeps s

  -- ---- a clear
  module _ (market : ℕ) (fills : List Frac128) (none : first_of (by_book (batch_refusals state.book market)) ≡ None)
      (allowed : AreFractionFills (batch_in state market).orders (map fraction_of fills)) where
    is_cleared : (m : MarketState) → market_of state.book market ≡ Some m → IsCleared (part_in state account market) (part_in (cleared_with state market fills) account market) (own_fills account (batch_in state market).orders fills)
    is_cleared m found = record {
      underlyings = underlyings-changed market market (λ m. with_live m []) (λ m. refl) state.book.markets;
      orders = own_orders account (batch_in state market).orders fills allowed.0 ∙ ap (filter (is_order_of account)) (sym (live_batch (market_of state.book market)));
      within = own_filled account (batch_in state market).orders fills allowed.1;
      held = positions_of account market (positions_in market (state.book.finished + 1) (batch_in state market).orders fills);
      positions = filter-append (is_held_by account market) state.positions (positions_in market (state.book.finished + 1) (batch_in state market).orders fills);
      as_filled = as_filled account market (state.book.finished + 1) (batch_in state market).orders fills;
      gone = ap (filter (is_order_of account))
          (live_found market (changed_in (λ m. with_live m []) market state.book.markets) (with_live m []) (found_changed market (λ m. with_live m []) state.book.markets m found));
    }

    elsewhere : (n : ℕ) → nat_eq n market ≡ false → part_in (cleared_with state market fills) account n ≡ part_in state account n
    elsewhere n apart =
        same_part account state (cleared_with state market fills) n (underlyings-changed n market (λ m. with_live m []) (λ m. refl) state.book.markets)
        (held_elsewhere account n market (state.book.finished + 1) (nat_eq-turned n market false apart) state.positions (batch_in state market).orders fills)
        (ap (filter (is_order_of account)) (live-changed n market apart (λ m. with_live m []) state.book.markets))

    pub cleared : IsCovered account state → IsCovered account (cleared_with state market fills)
    cleared =
        let (m, found, more, unsettled) = finishable state.book market (batch_none state.book market none) in
        one_moves market (cleared_with state market fills) m found (premiums_got (own_fills account (batch_in state market).orders fills))
        (keys_changed market (λ m. with_live m []) state.book.markets m found)
        (balance_of-append account state.entries (premium_entries (state.book.finished + 1) (batch_in state market).orders fills)
        ∙ ap (λ (x : ℤ). balance_of account state.entries +ℤ x) (premiums account some (state.book.finished + 1) (batch_in state market).orders fills (all_filled (batch_in state market).orders fills allowed.1)))
        (λ x e. clears_keep (part_in state account market) (part_in (cleared_with state market fills) account market) (own_fills account (batch_in state market).orders fills) x (is_cleared m found) e)
        elsewhere

  -- ---- a settlement
  module _ (market count : ℕ) (prices : List ℕ) (none : refusal_of state (Settle market count prices) ≡ None) (all : count ≤ length prices)
      (within : All (λ price. price ≤ MAX_SETTLEMENT_PRICE) prices) where
    is_settled : (m : MarketState) → market_of state.book market ≡ Some m → count ≡ m.underlyings
        → IsSettled (part_in state account market) (part_in (settle_effect state market (take count prices)).1 account market) (take count prices)
    is_settled m found same =
        let size : length (take count prices) ≡ count = length-take-le count prices all in
        record {
          on = size ∙ same ∙ sym (ap underlyings_of found);
          within = All-take (λ price. price ≤ MAX_SETTLEMENT_PRICE) count prices within;
          paid_out = none_outside account market state.positions;
          lapsed = ap (filter (is_order_of account))
              (live_found market (changed_in settled_market market state.book.markets) (settled_market m) (found_changed market settled_market state.book.markets m found));
        }

    untouched : (n : ℕ) → nat_eq n market ≡ false → part_in (settle_effect state market (take count prices)).1 account n ≡ part_in state account n
    untouched n apart =
        same_part account state (settle_effect state market (take count prices)).1 n (underlyings-changed n market settled_market (λ m. refl) state.book.markets)
        (held_apart account some market n apart state.positions)
        (ap (filter (is_order_of account)) (live-changed n market apart settled_market state.book.markets))

    pub settled : IsCovered account state → IsCovered account (settle_effect state market (take count prices)).1
    settled =
        let (m, found, unsettled, same) = closable state.book market count (close_none state.book market count none) in
        one_moves market (settle_effect state market (take count prices)).1 m found (gains_at (take count prices) (part_in state account market))
        (keys_changed market settled_market state.book.markets m found)
        (balance_settled account some state market (take count prices))
        (λ x e. settlements_keep (part_in state account market) (part_in (settle_effect state market (take count prices)).1 account market) (take count prices) x (is_settled m found same) e)
        untouched
