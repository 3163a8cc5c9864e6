-- What the code finds of an account: its markets are such as a need may be asked of, and with an
-- order more they are those once it is placed.
use Rattle.std.proofs.Common.{◌≡◌, ◌≢◌, ℕ, ◌+◌, ◌<◌, ◌≤◌, ◌^◌, true, false, List, [], ◌∷◌, ◌++◌, map, filter, fold, length, take, get_or, Option, Some, None, IfSome, nat_eq, nat_cmp, arith, refl, sym, ap, subst, ◌∙◌}
use Rattle.std.specs.BTreeSet.{insert_key}
use Rattle.std.specs.List.{All}
use Rattle.std.specs.Option.{option_map, option_map_or}
use Rattle.std.proofs.lemmas.Bool.Decides.{nat_tests}
use Rattle.std.proofs.lemmas.List.{map-append, take_more}
use Rattle.std.proofs.lemmas.List.Elements.{All-filter, All-nil, All-weaker, filter-append}
use Rattle.std.proofs.lemmas.Bool.{eq-eqb, eqb-true}
use Rattle.arithmetic.proofs.Tests.{nat_eq-turned}
use Rattle.form.specs.declared.limits.TheConstants.{MAX_UNDERLYINGS}
use Rattle.form.specs.declared.orders.Order.{Order}
use Rattle.order_book.specs.declared.market.MarketInfo.{MarketInfo}
use Rattle.order_book.specs.declared.new_order.NewOrder.{NewOrder}
use Rattle.order_book.specs.Book.{BookState, info_of, live_of, market_of, with_number}
use Rattle.order_book.specs.Kept.{IsBookKept, IsLive}
use Rattle.order_book.specs.Markets.{MarketState}
use Rattle.order_book.proofs.BookKept.{market_kept}
use Rattle.settlement.specs.declared.position.Position.{Position}
use Rattle.settlement.specs.Positions.{IsHeldPosition}
use Rattle.exchange_core.specs.ExchangeState.{ExchangeState}
use Rattle.exchange_core.specs.Held.{is_order_of, market_numbers, orders_of, positions_of, underlyings_in}
use Rattle.exchange_core.specs.Kept.{IsKept, IsPositionKept}
use Rattle.exchange_core.specs.Step.{place_effect}
use Rattle.exchange_core.proofs.HeldPositions.{held_are_held, held_have, position_is_on, underlyings_few}
use Rattle.exchange_core.proofs.Keeping.{kept-trade}
use Rattle.account_need.specs.declared.market.Market.{Market}
use Rattle.account_need.specs.Account.{Numbered, with_live}
use Rattle.account_need.specs.Exposure.{Portfolio}
use Rattle.account_need.specs.Given.{IsMarket, numbered_of, portfolio_of}
use Rattle.account_need.specs.Prices.{IsOrderOn, IsPositionOn}
use Rattle.account_need.proofs.Portfolios.{portfolio_is}
use Rattle.secured_accounts.specs.Secured.{IsAccepted, has_some, numbered_in, part_in, with_placed}
use Rattle.secured_accounts.proofs.ListsOfOne.{own_placed}
use Rattle.secured_accounts.proofs.Placing.{keys_placed, orders_elsewhere, orders_there, underlyings_placed}

-- ---- a market
pub orders_on : (book : BookState) → IsBookKept book → (market : ℕ) → All (IsOrderOn (underlyings_in book market + 1)) (live_of book market)
orders_on book kept market = by (market_of book market) refl
  where
    by : (found : Option MarketState) → market_of book market ≡ found
        → All (IsOrderOn (option_map_or (λ (info : MarketInfo). info.underlyings) (option_map info_of found) 1 + 1)) (option_map_or (λ (m : MarketState). m.live) found [])
    by None found = All-nil (IsOrderOn (1 + 1))
    by (Some m) found =
        All-weaker (IsLive m.underlyings book.accepted) (IsOrderOn (m.underlyings + 1)) (λ o l. record { within = l.within; on = l.forms }) m.live (market_kept book kept market m found).live

positions_on : (state : ExchangeState) (account market : ℕ) → IsKept state → All (IsPositionOn (underlyings_in state.book market + 1)) (positions_of account market state.positions)
positions_on state account market kept =
    held_have (IsPositionKept state.accounts state.book.markets) (IsPositionOn (underlyings_in state.book market + 1)) account market
    (λ p one own. record { options = one.options; on = position_is_on state.accounts state.book market p one own }) state.positions kept.positions

-- what an account has in a market of an exchange may be asked for a need
pub is_market : (state : ExchangeState) (account number : ℕ) (m : Market) → IsKept state → numbered_of m ≡ numbered_in state account number → length m.positions.items ≤ 2 ^ 24 → IsMarket m
is_market state account number m kept is few =
    let same : portfolio_of m ≡ part_in state account number = ap (λ (x : Numbered). x.1) is in
    let n : m.underlyings ≡ underlyings_in state.book number = ap (λ (p : Portfolio). p.underlyings) same in
    let ps : m.positions.items ≡ positions_of account number state.positions = ap (λ (p : Portfolio). p.positions) same in
    let os : m.live.items ≡ orders_of account number state.book = ap (λ (p : Portfolio). p.live) same in
    let within = underlyings_few state number kept in
    let own_orders = All-filter (is_order_of account) (IsOrderOn (underlyings_in state.book number + 1)) (live_of state.book number) (orders_on state.book kept.orders.book number) in
    record {
      some = subst (λ (k : ℕ). 1 ≤ k) (sym n) within.0;
      few = subst (λ (k : ℕ). k ≤ MAX_UNDERLYINGS) (sym n) within.1;
      held = subst (All IsHeldPosition) (sym ps) (held_are_held state account number kept);
      counted = few;
      positions = subst (λ (k : ℕ). All (IsPositionOn (k + 1)) m.positions.items) (sym n) (subst (All (IsPositionOn (underlyings_in state.book number + 1))) (sym ps) (positions_on state account number kept));
      orders = subst (λ (k : ℕ). All (IsOrderOn (k + 1)) m.live.items) (sym n) (subst (All (IsOrderOn (underlyings_in state.book number + 1))) (sym os) own_orders);
    }

-- ---- an order more
module _ (state : ExchangeState) (account : ℕ) where
  pub kept_placed : IsKept state → (placed : Option NewOrder) → IfSome placed (IsAccepted state account) → IsKept (with_placed state placed)
  kept_placed kept None may = kept
  kept_placed kept (Some order) may = kept-trade state kept order may.within may.accepted

  pub numbers_placed : (placed : Option NewOrder) → IfSome placed (IsAccepted state account) → market_numbers (with_placed state placed).book ≡ market_numbers state.book
  numbers_placed None may = refl
  numbers_placed (Some order) may = ap (fold (insert_key nat_cmp) []) (keys_placed state order may.accepted)

  -- in the order's market
  pub part_there : (order : NewOrder) → IsAccepted state account order → (number : ℕ) → nat_eq order.market number ≡ true
      → (number, with_live (part_in state account number) (with_number (state.book.accepted + 1) order)) ≡ numbered_in (place_effect state order).1 account number
  part_there order may number at =
      let is = eqb-true order.market number at in
      subst (λ (k : ℕ). (k, with_live (part_in state account k) (with_number (state.book.accepted + 1) order)) ≡ numbered_in (place_effect state order).1 account k) is
      (ap (λ (p : Portfolio). (order.market, p)) (sym here))
    where
      own : nat_eq order.account account ≡ true
      own = ap (λ (k : ℕ). nat_eq k account) may.own ∙ eq-eqb account account refl

      here : part_in (place_effect state order).1 account order.market ≡ with_live (part_in state account order.market) (with_number (state.book.accepted + 1) order)
      here =
          portfolio_is (part_in (place_effect state order).1 account order.market) (underlyings_in state.book order.market) (positions_of account order.market state.positions)
          (orders_of account order.market state.book ++ with_number (state.book.accepted + 1) order ∷ [])
          (underlyings_placed state order may.accepted order.market) refl
          (orders_there state order may.accepted account ∙ own_placed account (live_of state.book order.market) (with_number (state.book.accepted + 1) order) own)

  -- and in the others
  pub part_apart : (order : NewOrder) → IsAccepted state account order → (number : ℕ) → nat_eq order.market number ≡ false → numbered_in state account number ≡ numbered_in (place_effect state order).1 account number
  part_apart order may number apart =
      ap (λ (p : Portfolio). (number, p))
      (sym (portfolio_is (part_in (place_effect state order).1 account number) (underlyings_in state.book number) (positions_of account number state.positions) (orders_of account number state.book)
      (underlyings_placed state order may.accepted number) refl (orders_elsewhere state order may.accepted account number (nat_eq-turned order.market number false apart))))

  -- what the code finds, where it knows of an order that is placed
  module _ (placed : Option NewOrder) (may : IfSome placed (IsAccepted state account)) (order : NewOrder) (is : placed ≡ Some order) where
    accepted : IsAccepted state account order
    accepted = subst (λ (o : Option NewOrder). IfSome o (IsAccepted state account)) is may

    once : (number : ℕ) → numbered_in (place_effect state order).1 account number ≡ numbered_in (with_placed state placed) account number
    once number = ap (λ (o : Option NewOrder). numbered_in (with_placed state o) account number) (sym is)

    pub placed_there : (number : ℕ) (m more : Market) (live : Order) → order.market ≡ number → live ≡ with_number (state.book.accepted + 1) order → numbered_of m ≡ numbered_in state account number
        → numbered_of more ≡ (m.number, with_live (portfolio_of m) live) → numbered_of more ≡ numbered_in (with_placed state placed) account number
    placed_there number m more live at last found with_it =
        with_it ∙ (λ i. ((found i).0, with_live (found i).1 (last i))) ∙ part_there order accepted number (eq-eqb order.market number at) ∙ once number

    pub placed_apart : (number : ℕ) (m : Market) → order.market ≢ number → numbered_of m ≡ numbered_in state account number → numbered_of m ≡ numbered_in (with_placed state placed) account number
    placed_apart number m apart found = found ∙ part_apart order accepted number (differ order.market number apart) ∙ once number
      where
        differ : (a b : ℕ) → a ≢ b → nat_eq a b ≡ false
        differ a b e = grind (arith, nat_tests)

-- an order more, and no position
pub as_many : (m more : Market) (live : Order) → numbered_of more ≡ (m.number, with_live (portfolio_of m) live) → length m.positions.items ≤ 2 ^ 24 → length more.positions.items ≤ 2 ^ 24
as_many m more live is few = subst (λ (ps : List Position). length ps ≤ 2 ^ 24) (sym (ap (λ (x : Numbered). x.1.positions) is)) few

-- ---- all of them
-- one market more, where there is something in it
pub part_added : (N : ℕ → Numbered) (numbers : List ℕ) (i d : ℕ) (old new : List Numbered) (m : Numbered) → i < length numbers → m ≡ N (get_or numbers i d)
    → old ≡ filter has_some (map N (take i numbers)) → new ≡ old ++ filter has_some (m ∷ []) → new ≡ filter has_some (map N (take (i + 1) numbers))
part_added N numbers i d old new m within is before added =
    let k = get_or numbers i d in
    added
    ∙ (λ j. before j ++ filter has_some (is j ∷ []))
    ∙ sym (ap (λ (l : List ℕ). filter has_some (map N l)) (take_more numbers i d within) ∙ ap (filter has_some) (map-append N (take i numbers) (k ∷ [])) ∙ filter-append has_some (map N (take i numbers)) (N k ∷ []))
