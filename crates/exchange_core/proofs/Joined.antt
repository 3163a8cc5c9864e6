-- Ledger and book stay joined: the house is open, live orders are of open accounts, and reserves
-- are the sums over live buys.
use Rattle.std.proofs.Common.{◌≡◌, ℕ, ◌+◌, ◌≤◌, [], ◌∷◌, ◌++◌, true, None, Some, IsSome, refl, sym, ap, ◌∙◌, subst, arith}
use Rattle.std.proofs.lemmas.Bool.Decides.{nat_tests}
use Rattle.cash_ledger.specs.Ledger.{LedgerState, is_open, reserved_of}
use Rattle.limits.specs.declared.TheConstants.{MAX_RESERVED}
use Rattle.form.specs.declared.orders.Order.{Order}
use Rattle.order_book.specs.declared.new_order.NewOrder.{NewOrder}
use Rattle.order_book.specs.Book.{BookState, market_of, live_of, order_of, with_number, with_market, with_order, without_order, after_batch, after_close}
use Rattle.order_book.specs.Markets.{MarketState, settled_market, live_orders, with_live}
use Rattle.order_book.specs.Refusals.{market_refusals, place_refusals, batch_refusals}
use Rattle.lists.specs.Refusals.{first_of}
use Rattle.form.specs.declared.limits.TheConstants.{MAX_UNDERLYINGS}
use Rattle.order_book.specs.Within.{IsNewOrderWithin}
use Rattle.form.specs.Between.{Between}
use Rattle.order_book.proofs.Accepting.{accepts, finishable}
use Rattle.order_book.proofs.AllLive.{live-without_in_each, live-with_market}
use Rattle.exchange_core.specs.Kept.{AreOrdersKept, AreJoined}
use Rattle.exchange_core.specs.Reserves.{cost_of_new, reserve_by, reserve_of, own_amount, AddsReserve, FreesReserve, FreesReserves}
use Rattle.exchange_core.proofs.Keeping.{kept-open, kept-market, kept-place, kept-cancel, kept-batch, kept-close}
use Rattle.exchange_core.proofs.ReserveSums.{reserve_of-append, reserve_of-replaced, reserve_of-without, reserve_of-small}

module _ (ledger : LedgerState) (book : BookState) (joined : AreJoined ledger book) where
  -- no reserve is above the most of which more may be reserved
  pub reserve_bounded : (q : ℕ) → reserved_of ledger q ≤ MAX_RESERVED
  reserve_bounded q = omega (arith, joined.reserves q, reserve_of-small q book.accepted book.markets joined.kept.book.markets, joined.kept.book.few)

  module _ (after : LedgerState) (same : after.accounts ≡ ledger.accounts) where
    kept : AreOrdersKept after.accounts book
    kept = subst (λ l. AreOrdersKept l book) (sym same) joined.kept

    -- nothing is reserved and nothing is placed
    pub joined-entries : ((q : ℕ) → reserved_of after q ≡ reserved_of ledger q) → AreJoined after book
    joined-entries reserves = record { kept = kept; reserves = λ q. reserves q ∙ joined.reserves q }

    pub joined-place : (order : NewOrder) → IsNewOrderWithin order → first_of (place_refusals book order) ≡ None → is_open ledger.accounts order.account ≡ true
        → AddsReserve ledger after order.account (cost_of_new order)
        → AreJoined after (with_order book order)
    joined-place order within none held reserves =
        let new = with_number (book.accepted + 1) order in
        let live = live_of book order.market in
        let there = subst IsSome (sym (accepts book order none).found) refl in
        record {
          kept = kept-place after.accounts book kept order within none (ap (λ l. is_open l order.account) same ∙ held);
          reserves = λ q. omega (arith, reserves q, joined.reserves q, reserve_of-append q live (new ∷ []), reserve_of-replaced q order.market (λ m. with_live m (live ++ new ∷ [])) (live ++ new ∷ []) (λ m. refl) book.markets there);
        }

    pub joined-cancel : (number : ℕ) (order : Order) → order_of book number ≡ Some order → FreesReserve ledger after order
        → AreJoined after (without_order book number)
    joined-cancel number order found reserves = record {
      kept = kept-cancel after.accounts book kept number;
      reserves = λ q. omega (arith, reserves q, joined.reserves q, ap (reserve_of q) (live-without_in_each number book.markets), reserve_of-without q number order (live_orders book.markets) found (joined.kept.book.numbers number));
    }

    pub joined-batch : (market : ℕ) → first_of (batch_refusals book market) ≡ None
        → FreesReserves ledger after (live_of book market)
        → AreJoined after (after_batch book market)
    joined-batch market none reserves =
        let (m, found, more, unsettled) = finishable book market none in
        let there = subst IsSome (sym found) refl in
        record {
          kept = kept-batch after.accounts book kept market none;
          reserves = λ q. omega (arith, reserves q, joined.reserves q, reserve_of-replaced q market (λ m. with_live m []) [] (λ m. refl) book.markets there);
        }

    pub joined-close : (market : ℕ) (m : MarketState) → market_of book market ≡ Some m → FreesReserves ledger after (live_of book market)
        → AreJoined after (after_close book market)
    joined-close market m found reserves =
        let there = subst IsSome (sym found) refl in
        record {
          kept = kept-close after.accounts book kept market m found;
          reserves = λ q. omega (arith, reserves q, joined.reserves q, reserve_of-replaced q market settled_market [] (λ m. refl) book.markets there);
        }

  -- an account more
  pub joined-open : (after : LedgerState) (account : ℕ) → after.accounts ≡ ledger.accounts ++ account ∷ [] → ((q : ℕ) → reserved_of after q ≡ reserved_of ledger q) → AreJoined after book
  joined-open after account same reserves =
      let opened = kept-open ledger.accounts book joined.kept account in
      record {
        kept = subst (λ l. AreOrdersKept l book) (sym same) opened;
        reserves = λ q. reserves q ∙ joined.reserves q;
      }

  -- a market more
  pub joined-market : (market underlyings : ℕ) → first_of (market_refusals book market) ≡ None → Between 1 MAX_UNDERLYINGS underlyings → AreJoined ledger (with_market book market underlyings)
  joined-market market underlyings none within = record {
    kept = kept-market ledger.accounts book joined.kept market underlyings none within;
    reserves = λ q. joined.reserves q ∙ ap (reserve_of q) (sym (live-with_market market underlyings book.markets));
  }

  -- of an order's account at least as much is reserved as the order reserves
  pub reserve_there : (number : ℕ) (order : Order) → order_of book number ≡ Some order → (q : ℕ) → reserve_by q order ≤ reserved_of ledger q
  reserve_there number order found q =
      omega (arith, joined.reserves q, reserve_of-without q number order (live_orders book.markets) found (joined.kept.book.numbers number))

  -- and of each account at least what the orders of one market reserve
  pub reserve_live : (market : ℕ) → IsSome (market_of book market) → (q : ℕ) → reserve_of q (live_of book market) ≤ reserved_of ledger q
  reserve_live market there q = omega (arith, joined.reserves q, reserve_of-replaced q market (λ m. with_live m []) [] (λ m. refl) book.markets there)

pub own_amount-own : (account amount : ℕ) → own_amount account account amount ≡ amount
own_amount-own account amount = grind (arith, nat_tests)
