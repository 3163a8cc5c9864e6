-- The accounts of a session that is not the operator's have few live orders, whatever is said.
use Rattle.std.proofs.Common.{◌≡◌, ◌≤◌, ℕ, ◌+◌, Bool, true, false, not, ◌&&◌, ◌||◌, List, [], ◌∷◌, ◌++◌, nat_le, Option, Some, None, if◌then◌else◌, refl, sym, ap, ◌∙◌, subst, arith}
use Rattle.std.specs.Option.{option_map, option_map_or}
use Rattle.std.proofs.lemmas.List.Elements.{All-push}
use Rattle.std.proofs.lemmas.Option.{same_Some}
use Rattle.cash_ledger.specs.Ledger.{is_open}
use Rattle.cash_ledger.specs.Refusals.{open_refusals}
use Rattle.cash_ledger.specs.declared.ledger.LedgerRefusal.{LedgerRefusal}
use Rattle.cash_ledger.specs.declared.ledger.LedgerRefusal.TheVariants.{AccountExists}
use Rattle.form.specs.declared.orders.Order.{Order}
use Rattle.command_text.specs.declared.command.Command.{Command}
use Rattle.command_text.specs.declared.command.Command.TheVariants.{Open, Deposit, Withdraw, Market, Trade, Bundle, Cancel, Clear, Settle, Balance}
use Rattle.command_text.specs.declared.requests.Request.TheVariants as asks
use Rattle.lists.specs.Refusals.{first_of}
use Rattle.lists.proofs.FirstRefusal.{none_unnamed}
use Rattle.order_book.specs.declared.new_order.NewOrder.{NewOrder}
use Rattle.order_book.specs.declared.market.MarketInfo.{MarketInfo}
use Rattle.order_book.specs.Book.{info_of, is_trading, live_of, with_number}
use Rattle.order_book.specs.Markets.{MarketState, settled_market, with_live, without}
use Rattle.order_book.proofs.Accepting.{accepts}
use Rattle.exchange_core.specs.declared.refusal.Refusal.{Refusal}
use Rattle.exchange_core.specs.ExchangeState.{ExchangeState}
use Rattle.exchange_core.specs.Kept.{IsKept, IsOfOpen}
use Rattle.exchange_core.specs.Orders.{order_by, order_for}
use Rattle.exchange_core.specs.Refusals.{ledger_name, place_refusals, refusal_of}
use Rattle.exchange_core.specs.Step.{effect, place_effect, refusal_effect, step}
use Rattle.exchange_core.proofs.FirstRefusal.{place_none}
use Rattle.members.specs.Laws.{Event, Said, Charged, HasFewLive, LiveOrdersAreFew, Managed, after_event, after_passed, command_in, refusal_to, session_in}
use Rattle.members.specs.Members.{MembersState, after_reply, counted_of, has_own_live, has_placed, is_allowed, is_over, own_live, own_one, owns, uses_up}
use Rattle.members.specs.Rule.{is_operator}
use Rattle.members.specs.declared.quota.TheConstants.{MAX_OWN_LIVE, MAX_PLACED}
use Rattle.members.specs.declared.refusal.MemberRefusal.{MemberRefusal}
use Rattle.members.proofs.ByRule.{allowed_if, moved, of_side}
use Rattle.members.proofs.Counting.{below, not_over, not_used}
use Rattle.members.proofs.FewLive.{InEach, in_changed, in_each_of, in_left, in_live, own_left, own_more, own_opened}
use Rattle.members.proofs.OwnerLists.{owner_is}

-- ---- what an order or an account that is accepted tells
both_false : (a b : Bool) → (a || b) ≡ false → b ≡ false
both_false true b h = cc
both_false false b h = h

test_false : (a b : Bool) → a ≡ true → (a && b) ≡ false → b ≡ false
test_false true b is h = h
test_false false b is h = cc

trading_at : (state : ExchangeState) (order : NewOrder) → first_of (place_refusals state order) ≡ None → is_trading state.book order.market ≡ true
trading_at state order none =
    let at = accepts state.book order (place_none state order none).0 in
    ap (λ (m : Option MarketState). option_map_or (λ (found : MarketInfo). not found.settled) (option_map info_of m) false) at.found ∙ ap not at.unsettled

not_open : (state : ExchangeState) (account : ℕ) → refusal_of state (Open account) ≡ None → is_open state.accounts account ≡ false
not_open state account none = by (is_open state.accounts account) _ (none_unnamed ledger_name (open_refusals state.accounts account) (refl, (refl, tt)) none)
  where
    by : (b : Bool) (others : Option LedgerRefusal) → (if b then Some AccountExists else others) ≡ None → b ≡ false
    by true others h = cc
    by false others h = refl

-- ---- of a session q, as another or itself speaks
module _ (members : MembersState) (state : ExchangeState) (kept : IsKept state) (speaker q : ℕ) where
  abbrev Few : List Order → Type 0
  Few orders = own_live members.owners q orders ≤ MAX_OWN_LIVE

  abbrev HasFew : MembersState → ExchangeState → Type 0
  HasFew after exchange = InEach (λ orders. own_live after.owners q orders ≤ MAX_OWN_LIVE) exchange.book.markets

  none_few : Few []
  none_few = omega arith

  module _ (few : InEach Few state.book.markets) where
    opened_few : (account : ℕ) → refusal_of state (Open account) ≡ None → HasFew (after_reply members speaker (effect state (Open account)).0) (effect state (Open account)).1
    opened_few account none =
        let after = after_reply members speaker (effect state (Open account)).0 in
        let shut = not_open state account none in
        in_each_of (IsOfOpen state.accounts) Few (λ orders. own_live after.owners q orders ≤ MAX_OWN_LIVE)
        (λ orders opened h. subst (λ n. n ≤ MAX_OWN_LIVE) (sym (own_opened members.owners state.accounts account speaker q shut orders opened)) h)
        state.book.markets kept.orders.accounts few

    placed_few : (order : NewOrder) → first_of (place_refusals state order) ≡ None → (q ≡ speaker → has_placed members state.book speaker order.market ≡ false)
        → owns members.owners speaker order.account ≡ true → InEach Few (place_effect state order).1.book.markets
    placed_few order none within own =
        in_changed Few order.market (λ m. with_live m (before ++ new ∷ [])) (λ m. by (owns members.owners q order.account) refl) state.book.markets few
      where
        before : List Order
        before = live_of state.book order.market

        new : Order
        new = with_number (state.book.accepted + 1) order

        were : Few before
        were = in_live Few none_few order.market state.book.markets few

        same : owns members.owners q order.account ≡ true → q ≡ speaker
        same is = same_Some q speaker (sym (owner_is members.owners q order.account is) ∙ owner_is members.owners speaker order.account own)

        room : q ≡ speaker → own_live members.owners q before + 1 ≤ MAX_OWN_LIVE
        room is =
            let none_over = both_false (nat_le MAX_PLACED (counted_of members.counts speaker).placed) (has_own_live members.owners state.book speaker order.market) (within is) in
            let few_there = test_false (is_trading state.book order.market) (nat_le MAX_OWN_LIVE (own_live members.owners speaker before)) (trading_at state order none) none_over in
            subst (λ n. own_live members.owners n before + 1 ≤ MAX_OWN_LIVE) (sym is) (below MAX_OWN_LIVE (own_live members.owners speaker before) few_there)

        by : (b : Bool) → owns members.owners q order.account ≡ b → Few (before ++ new ∷ [])
        by true is =
            let one : own_one members.owners q new ≡ 1 = ap (λ b. if b then 1 else 0) is in
            let more = own_more members.owners q before new in
            let there = room (same is) in
            omega (arith, one, more, there)
        by false is =
            let none_own : own_one members.owners q new ≡ 0 = ap (λ b. if b then 1 else 0) is in
            let more = own_more members.owners q before new in
            omega (arith, none_own, more, were)

    less : (number : ℕ) → (orders : List Order) → Few orders → Few (without number orders)
    less number orders h = let left = own_left members.owners q number orders in omega (arith, left, h)

    accepted_few : (command : Command) → is_allowed members.owners speaker (asks.Command command) ≡ true → (q ≡ speaker → uses_up members state speaker command ≡ false)
        → refusal_of state command ≡ None → HasFew (after_reply members speaker (effect state command).0) (effect state command).1
    accepted_few (Open account) allowed within none = opened_few account none
    accepted_few (Deposit account amount) allowed within none = few
    accepted_few (Withdraw account amount) allowed within none = few
    accepted_few (Market market underlyings) allowed within none =
        All-push (λ (m : ℕ × MarketState). Few m.1.live) state.book.markets (market, record { underlyings = underlyings; settled = false; live = [] }) few none_few
    accepted_few (Trade side account market kind strike price quantity count weights) allowed within none =
        placed_few (order_by side account market kind strike price quantity count weights) none within (of_side members.owners speaker side account allowed)
    accepted_few (Bundle side account market price quantity bundle) allowed within none =
        placed_few (order_for side account market price quantity bundle) none within allowed
    accepted_few (Cancel account number) allowed within none = in_left Few number (less number) state.book.markets few
    accepted_few (Clear market budget) allowed within none = in_changed Few market (λ m. with_live m []) (λ m. none_few) state.book.markets few
    accepted_few (Settle market count prices) allowed within none = in_changed Few market settled_market (λ m. none_few) state.book.markets few
    accepted_few (Balance account) allowed within none = few

    stepped_few : (command : Command) → is_allowed members.owners speaker (asks.Command command) ≡ true → (q ≡ speaker → uses_up members state speaker command ≡ false)
        → HasFew (after_reply members speaker (step state command).0) (step state command).1
    stepped_few command allowed within = by (refusal_of state command) refl
      where
        by : (refused : Option Refusal) → refusal_of state command ≡ refused
            → HasFew (after_reply members speaker (option_map_or (refusal_effect state) refused (effect state command)).0) (option_map_or (refusal_effect state) refused (effect state command)).1
        by None none = accepted_few command allowed within none
        by (Some refusal) told = few

-- ---- events
passed_few : (state : Managed) (event : Event) (q : ℕ) → is_operator q ≡ false → IsKept state.exchange → HasFewLive state q
    → is_allowed state.members.owners (session_in event) (asks.Command (command_in event)) ≡ true
    → is_over state.members state.exchange (session_in event) (asks.Command (command_in event)) ≡ false → HasFewLive (after_passed state event) q
passed_few state (Said session command) q other kept few allowed over =
    stepped_few state.members state.exchange kept session q few command allowed
    (λ same. not_used (is_operator session) (uses_up state.members state.exchange session command) (subst (λ n. is_operator n ≡ false) same other) over)
passed_few state (Charged session market budget fills) q other kept few allowed over =
    in_changed (λ orders. own_live state.members.owners q orders ≤ MAX_OWN_LIVE) market (λ m. with_live m []) (λ m. omega arith) state.exchange.book.markets few

event_few : (state : Managed) (event : Event) (q : ℕ) → is_operator q ≡ false → IsKept state.exchange → HasFewLive state q → HasFewLive (after_event state event) q
event_few state event q other kept few = by (refusal_to state event) refl
  where
    over : refusal_to state event ≡ None → is_over state.members state.exchange (session_in event) (asks.Command (command_in event)) ≡ false
    over none = not_over (is_allowed state.members.owners (session_in event) (asks.Command (command_in event))) (is_over state.members state.exchange (session_in event) (asks.Command (command_in event))) none

    by : (refused : Option MemberRefusal) → refusal_to state event ≡ refused → HasFewLive (option_map_or (λ refusal. state) refused (after_passed state event)) q
    by None none = passed_few state event q other kept few (allowed_if state event none) (over none)
    by (Some refusal) told = few

pub live_orders_are_few : LiveOrdersAreFew
live_orders_are_few state [] q other kept come few = few
live_orders_are_few state (event ∷ events) q other kept come few =
    let first = moved state event kept come.0 in
    live_orders_are_few (after_event state event) events q other first.keeps come.1 (event_few state event q other kept few)
