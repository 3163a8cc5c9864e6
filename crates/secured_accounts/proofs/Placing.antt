-- The live orders and the markets of an account once an order is placed.
use Rattle.std.proofs.Common.{◌≡◌, ℕ, ◌+◌, false, [], ◌∷◌, ◌++◌, filter, None, nat_eq, refl, ap}
use Rattle.std.specs.Map.{keys_of}
use Rattle.lists.specs.Refusals.{first_of}
use Rattle.order_book.specs.declared.new_order.NewOrder.{NewOrder}
use Rattle.order_book.specs.Book.{live_of, with_number}
use Rattle.order_book.specs.Markets.{MarketState, changed_in, with_live}
use Rattle.order_book.proofs.Accepting.{Accepts, accepts}
use Rattle.order_book.proofs.LiveElsewhere.{live-changed}
use Rattle.order_book.proofs.MarketLists.{keys_changed, live_found}
use Rattle.exchange_core.specs.ExchangeState.{ExchangeState}
use Rattle.exchange_core.specs.Held.{is_order_of, orders_of, underlyings_in}
use Rattle.exchange_core.specs.Refusals.{place_refusals}
use Rattle.exchange_core.specs.Step.{place_effect}
use Rattle.exchange_core.proofs.FirstRefusal.{place_none}
use Rattle.secured_accounts.proofs.Markets.{found_changed, underlyings-changed}

module _ (state : ExchangeState) (order : NewOrder) (none : first_of (place_refusals state order) ≡ None) where
  abbrev change : MarketState → MarketState
  change m = with_live m (live_of state.book order.market ++ with_number (state.book.accepted + 1) order ∷ [])

  accepted : Accepts state.book order
  accepted = accepts state.book order (place_none state order none).0

  pub keys_placed : keys_of (place_effect state order).1.book.markets ≡ keys_of state.book.markets
  keys_placed = keys_changed order.market (λ m. change m) state.book.markets accepted.market accepted.found

  pub underlyings_placed : (n : ℕ) → underlyings_in (place_effect state order).1.book n ≡ underlyings_in state.book n
  underlyings_placed n = underlyings-changed n order.market (λ m. change m) (λ m. refl) state.book.markets

  module _ (account : ℕ) where
    -- in its market it goes last
    pub orders_there : orders_of account order.market (place_effect state order).1.book
        ≡ filter (is_order_of account) (live_of state.book order.market ++ with_number (state.book.accepted + 1) order ∷ [])
    orders_there =
        ap (filter (is_order_of account))
        (live_found order.market (changed_in (λ m. change m) order.market state.book.markets) (change accepted.market)
        (found_changed order.market (λ m. change m) state.book.markets accepted.market accepted.found))

    pub orders_elsewhere : (n : ℕ) → nat_eq n order.market ≡ false → orders_of account n (place_effect state order).1.book ≡ orders_of account n state.book
    orders_elsewhere n apart = ap (filter (is_order_of account)) (live-changed n order.market apart (λ m. change m) state.book.markets)
