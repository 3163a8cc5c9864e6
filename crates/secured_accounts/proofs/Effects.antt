-- A balance that is enough for all markets of an account stays so with each thing that an exchange
-- does, but for orders and withdrawals of the account itself.
use Rattle.std.proofs.Common.{◌≡◌, ℕ, ◌+◌, Bool, true, false, not, List, [], ◌∷◌, ◌++◌, map, filter, Option, None, if◌then◌else◌, nat_eq, arith, ℤ, pos, neg_ℤ, ◌+ℤ◌, ◌≤ℤ◌, refl, sym, ap, subst, ◌∙◌}
use Rattle.std.specs.Map.{keys_of}
use Rattle.std.specs.Option.{option_map_or}
use Rattle.std.proofs.lemmas.Int.{ints}
use Rattle.std.proofs.lemmas.List.{map-append}
use Rattle.std.proofs.lemmas.Bool.{eqb-true}
use Rattle.arithmetic.specs.Sums.{total}
use Rattle.cash_ledger.specs.Entries.{amount_for, balance_of, deposit_of, withdrawal_of}
use Rattle.cash_ledger.proofs.Balances.{balance_of-push}
use Rattle.form.specs.declared.orders.Order.{Order}
use Rattle.lists.specs.Refusals.{first_of}
use Rattle.order_book.specs.declared.new_order.NewOrder.{NewOrder}
use Rattle.order_book.specs.Book.{live_of, market_of, with_number}
use Rattle.order_book.specs.Markets.{MarketState, has_number}
use Rattle.command_text.specs.declared.command.Command.TheVariants.{Market}
use Rattle.order_book.proofs.Accepting.{listable}
use Rattle.order_book.proofs.BookKept.{keys_taken}
use Rattle.order_book.proofs.LiveElsewhere.{live-listed, live-without}
use Rattle.exchange_core.specs.ExchangeState.{ExchangeState}
use Rattle.exchange_core.specs.Held.{is_order_of, orders_of, positions_of, underlyings_in}
use Rattle.exchange_core.specs.Kept.{IsKept, on_if_trading}
use Rattle.exchange_core.specs.Refusals.{place_refusals, refusal_of}
use Rattle.exchange_core.specs.Step.{cancel_effect, deposit_effect, market_effect, place_effect, withdraw_effect}
use Rattle.exchange_core.proofs.FirstRefusal.{market_none}
use Rattle.account_need.specs.Exposure.{IsEnough, IsSecured, Portfolio}
use Rattle.account_need.specs.Moves.{IsCancelled}
use Rattle.account_need.proofs.Losses.{cancels_keep}
use Rattle.account_need.proofs.Portfolios.{portfolio_is}
use Rattle.account_need.proofs.Secured.{enough_not_below, more_is_secured}
use Rattle.secured_accounts.specs.Secured.{part_in}
use Rattle.secured_accounts.proofs.AllMarkets.{IsEnoughForAll}
use Rattle.secured_accounts.proofs.Enough.{HasNothing, all_moved, at_end, nothing_enough}
use Rattle.secured_accounts.proofs.Markets.{new_market, none_paid, underlyings-listed, underlyings-without}
use Rattle.secured_accounts.proofs.ListsOfOne.{another_placed, filtered_both, none_held}
use Rattle.secured_accounts.proofs.Placing.{keys_placed, orders_elsewhere, orders_there, underlyings_placed}

pub still : (p : Portfolio) (x : ℤ) → IsEnough p x → IsEnough p (x +ℤ pos 0)
still p x e = let same : x ≡ x +ℤ pos 0 = omega (arith, ints) in subst (IsEnough p) same e

no_less : (x : ℤ) → x ≤ℤ x
no_less x = omega (arith, ints)

module _ (account : ℕ) where
  -- the balance is enough for all markets
  abbrev pub IsCovered : ExchangeState → Type 0
  IsCovered state = IsEnoughForAll state account (balance_of account state.entries)

  -- ---- the same markets, each as it moves
  pub carried : (state after : ExchangeState) (paid : ℕ → ℤ) → keys_of after.book.markets ≡ keys_of state.book.markets
      → (balance_of account state.entries +ℤ total paid (keys_of state.book.markets)) ≤ℤ balance_of account after.entries
      → ((n : ℕ) (x : ℤ) → IsEnough (part_in state account n) x → IsEnough (part_in after account n) (x +ℤ paid n))
      → IsCovered state → IsCovered after
  carried state after paid keys sum keeps s =
      let before = keys_of state.book.markets in
      let balance = balance_of account state.entries in
      let moved = all_moved (part_in state account) (part_in after account) paid keeps before balance s in
      more_is_secured (map (part_in after account) (keys_of after.book.markets)) (balance +ℤ total paid before) (balance_of account after.entries) sum
      (subst (λ (l : List ℕ). IsSecured (map (part_in after account) l) (balance +ℤ total paid before)) (sym keys) moved)

  -- the account is paid nothing there
  unpaid : (state after : ExchangeState) → keys_of after.book.markets ≡ keys_of state.book.markets → balance_of account state.entries ≤ℤ balance_of account after.entries
      → ((n : ℕ) (x : ℤ) → IsEnough (part_in state account n) x → IsEnough (part_in after account n) x) → IsCovered state → IsCovered after
  unpaid state after keys more keeps s =
      let none = none_paid (keys_of state.book.markets) in
      carried state after (λ (n : ℕ). pos 0) keys (omega (arith, ints, more, none)) (λ n x e. still (part_in after account n) x (keeps n x e)) s

  -- all that it has stays
  unmoved : (state after : ExchangeState) → keys_of after.book.markets ≡ keys_of state.book.markets → balance_of account state.entries ≤ℤ balance_of account after.entries
      → ((n : ℕ) → part_in after account n ≡ part_in state account n) → IsCovered state → IsCovered after
  unmoved state after keys more same s = unpaid state after keys more (λ n x e. subst (λ (p : Portfolio). IsEnough p x) (sym (same n)) e) s

  module _ (state : ExchangeState) where
    -- a part of another state that is this one
    pub same_part : (after : ExchangeState) (n : ℕ) → underlyings_in after.book n ≡ underlyings_in state.book n → positions_of account n after.positions ≡ positions_of account n state.positions
        → orders_of account n after.book ≡ orders_of account n state.book → part_in after account n ≡ part_in state account n
    same_part after n = portfolio_is (part_in after account n) (underlyings_in state.book n) (positions_of account n state.positions) (orders_of account n state.book)

    -- ---- money
    pub deposited : (other amount : ℕ) → IsCovered state → IsCovered (deposit_effect state other amount).1
    deposited other amount s =
        let pushed = balance_of-push account state.entries (deposit_of other amount) in
        let gain : pos 0 ≤ℤ amount_for account (deposit_of other amount) = by (nat_eq account other) in
        let more : balance_of account state.entries ≤ℤ balance_of account (state.entries ++ deposit_of other amount ∷ []) = omega (arith, ints, pushed, gain) in
        unmoved state (deposit_effect state other amount).1 refl more (λ n. refl) s
      where
        by : (own : Bool) → pos 0 ≤ℤ (if own then pos amount else pos 0)
        by true = omega (arith, ints)
        by false = omega (arith, ints)

    pub withdrawn : (other amount : ℕ) → nat_eq account other ≡ false → IsCovered state → IsCovered (withdraw_effect state other amount).1
    withdrawn other amount apart s =
        let pushed = balance_of-push account state.entries (withdrawal_of other amount) in
        let nothing : amount_for account (withdrawal_of other amount) ≡ pos 0 = ap (λ b. if b then neg_ℤ (pos amount) else pos 0) apart in
        let as_much : balance_of account state.entries ≤ℤ balance_of account (state.entries ++ withdrawal_of other amount ∷ []) = omega (arith, ints, pushed, nothing) in
        unmoved state (withdraw_effect state other amount).1 refl as_much (λ n. refl) s

    -- ---- orders
    module _ (kept : IsKept state) where
      pub placed : (order : NewOrder) → first_of (place_refusals state order) ≡ None → nat_eq order.account account ≡ false → IsCovered state → IsCovered (place_effect state order).1
      placed order none other s =
          unmoved state (place_effect state order).1 (keys_placed state order none) (no_less (balance_of account state.entries)) (λ n. same_part (place_effect state order).1 n (underlyings_placed state order none n) refl (live n)) s
        where
          here : orders_of account order.market (place_effect state order).1.book ≡ orders_of account order.market state.book
          here = orders_there state order none account ∙ another_placed account (live_of state.book order.market) (with_number (state.book.accepted + 1) order) other

          live : (n : ℕ) → orders_of account n (place_effect state order).1.book ≡ orders_of account n state.book
          live n = by (nat_eq n order.market) refl
            where
              by : (b : Bool) → nat_eq n order.market ≡ b → orders_of account n (place_effect state order).1.book ≡ orders_of account n state.book
              by true at = subst (λ (k : ℕ). orders_of account k (place_effect state order).1.book ≡ orders_of account k state.book) (sym (eqb-true n order.market at)) here
              by false at = orders_elsewhere state order none account n at

      pub cancelled : (number : ℕ) → IsCovered state → IsCovered (cancel_effect state number).1
      cancelled number s =
          unpaid state (cancel_effect state number).1 (keys_taken number state.book.markets) (no_less (balance_of account state.entries)) (λ n x e. cancels_keep (part_in state account n) (part_in (cancel_effect state number).1 account n) stays x (taken n) e) s
        where
          stays : Order → Bool
          stays = λ order. not (has_number number order)

          taken : (n : ℕ) → IsCancelled (part_in state account n) (part_in (cancel_effect state number).1 account n) stays
          taken n = record {
            underlyings = underlyings-without n number state.book.markets;
            positions = refl;
            live = ap (filter (is_order_of account)) (live-without n number state.book.markets) ∙ filtered_both (is_order_of account) stays (live_of state.book n);
          }

      -- ---- markets
      pub listed : (market underlyings : ℕ) → refusal_of state (Market market underlyings) ≡ None → IsCovered state → IsCovered (market_effect state market underlyings).1
      listed market underlyings none s =
          subst (λ (ps : List Portfolio). IsSecured ps balance) (sym keys)
          (at_end (part_in after account market) (map (part_in after account) before) balance empty
          (more_is_secured (map (part_in after account) before) (balance +ℤ total (λ (n : ℕ). pos 0) before) balance (omega (arith, ints, none_paid before))
          (all_moved (part_in state account) (part_in after account) (λ (n : ℕ). pos 0) (λ n x e. still (part_in after account n) x (keeps n x e)) before balance s)))
        where
          after : ExchangeState
          after = (market_effect state market underlyings).1

          before : List ℕ
          before = keys_of state.book.markets

          balance : ℤ
          balance = balance_of account state.entries

          free : market_of state.book market ≡ None
          free = (listable state.book market (market_none state.book market none)).0

          keys : map (part_in after account) (keys_of after.book.markets) ≡ map (part_in after account) before ++ part_in after account market ∷ []
          keys =
              ap (map (part_in after account)) (map-append (λ (e : ℕ × MarketState). e.0) state.book.markets ((market, new_market underlyings) ∷ []))
              ∙ map-append (part_in after account) before (market ∷ [])

          empty : HasNothing (part_in after account market)
          empty = record {
            positions = none_held account state.accounts state.book.markets market (ap (λ (o : Option MarketState). option_map_or on_if_trading o None) free) state.positions kept.positions;
            live = ap (filter (is_order_of account)) (live-listed market market underlyings state.book.markets ∙ ap (λ (o : Option MarketState). option_map_or (λ (m : MarketState). m.live) o []) free);
          }

          keeps : (n : ℕ) (x : ℤ) → IsEnough (part_in state account n) x → IsEnough (part_in after account n) x
          keeps n x e = by (nat_eq n market) refl
            where
              by : (b : Bool) → nat_eq n market ≡ b → IsEnough (part_in after account n) x
              by true at =
                  subst (λ (k : ℕ). IsEnough (part_in after account k) x) (sym (eqb-true n market at))
                  (nothing_enough (part_in after account market) x empty (enough_not_below (part_in state account n) x e))
              by false at =
                  subst (λ (p : Portfolio). IsEnough p x)
                  (sym (same_part after n (underlyings-listed n market underlyings at state.book.markets) refl (ap (filter (is_order_of account)) (live-listed n market underlyings state.book.markets)))) e
