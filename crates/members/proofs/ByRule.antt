-- What an account has changes by its owner, and by the operator's deposits, clears and settlements.
use Rattle.std.proofs.Common.{◌≡◌, ℕ, ◌+◌, Bool, true, false, not, List, [], ◌∷◌, ◌++◌, append-nil, map, nat_eq, take, Contains, ◌⊎◌, inl, inr, ⊎_elim, Option, Some, None, if◌then◌else◌, refl, sym, ap, ◌∙◌, subst, arith}
use Rattle.std.specs.Option.{option_map_or}
use Rattle.std.proofs.lemmas.Bool.Decides.{nat_tests}
use Rattle.std.proofs.lemmas.List.Elements.{All-nil, All-cons, All-weaker, All-contains_itself, Contains-append_left, Contains-push_cases}
use Rattle.cash_ledger.specs.declared.entry.Entry.{Entry}
use Rattle.cash_ledger.specs.Entries.{deposit_of, withdrawal_of}
use Rattle.cash_ledger.specs.Refusals.{account_refusals}
use Rattle.clearing.specs.Outcome.{outcome_of}
use Rattle.clearing.proofs.Outcomes.{outcomes_are_within}
use Rattle.clearing_model.specs.Certificate.{AreFractionFills}
use Rattle.form.specs.declared.orders.Order.{Order}
use Rattle.form.specs.declared.orders.Side.{Side}
use Rattle.form.specs.declared.orders.Side.TheVariants.{Buy, Sell}
use Rattle.frac.specs.declared.frac128.Frac128.{Frac128}
use Rattle.frac.specs.Value.{fraction_of}
use Rattle.command_text.specs.declared.command.Command.{Command}
use Rattle.command_text.specs.declared.command.Command.TheVariants.{Open, Deposit, Withdraw, Market, Trade, Bundle, Cancel, Clear, Settle, Balance}
use Rattle.command_text.specs.declared.requests.Request.TheVariants as asks
use Rattle.lists.specs.Refusals.{first_of}
use Rattle.lists.proofs.FirstRefusal.{none_in_both, none_unnamed}
use Rattle.order_book.specs.declared.new_order.NewOrder.{NewOrder}
use Rattle.order_book.specs.Book.{live_of, order_of, with_number}
use Rattle.order_book.specs.Markets.{live_in, settled_market, with_live, without}
use Rattle.order_book.specs.Refusals.{cancel_refusals}
use Rattle.order_book.proofs.Cancelling.{other_order}
use Rattle.order_book.proofs.LiveElsewhere.{live-listed, live-without}
use Rattle.settlement.specs.Positions.{held_in, payouts_of}
use Rattle.settlement.specs.declared.position.Position.{Position}
use Rattle.exchange_core.specs.declared.refusal.Refusal.{Refusal}
use Rattle.exchange_core.specs.ExchangeState.{ExchangeState}
use Rattle.exchange_core.specs.Kept.{IsKept}
use Rattle.exchange_core.specs.Orders.{order_by, order_for, order_of as new_order_of}
use Rattle.exchange_core.specs.Payoffs.{payoff_entries}
use Rattle.exchange_core.specs.Premiums.{premium_entries}
use Rattle.exchange_core.specs.Refusals.{book_name, by_book, by_ledger, refusal_of}
use Rattle.exchange_core.specs.Step.{batch_in, cleared_with, effect, place_effect, refusal_effect, step, with_entry}
use Rattle.exchange_core.proofs.Covered.{batch_is_within}
use Rattle.exchange_core.proofs.Keeping.{clears_keep, step_keeps}
use Rattle.members.specs.Laws.{AddsEntries, ArePositionsBy, Event, Said, Charged, IsByRule, IsCancelledBy, IsCleared, IsEndedBy, IsEntryBy, IsOperator, IsOwner, IsPlacedBy, IsSettled, Managed, MayCome, MovesAreByRule, MovesOrders, after_event, after_passed, command_in, refusal_to, session_in}
use Rattle.members.specs.Members.{Owned, is_allowed, is_over, owns}
use Rattle.members.specs.Rule.{is_among, sender_of, side_word}
use Rattle.members.specs.declared.refusal.MemberRefusal.{MemberRefusal}
use Rattle.members.specs.declared.refusal.MemberRefusal.TheVariants.{NotAllowed, Quota}
use Rattle.members.proofs.EntryCauses.{all_payoffs_by, all_premiums_by}
use Rattle.members.proofs.Listings.{listing-with_live_in, listing-without_in_each}
use Rattle.members.proofs.LiveMoves.{left_or_found, live_changed, was_there}
use Rattle.members.proofs.OwnerLists.{owner_is}

cancel_none : (state : ExchangeState) (account number : ℕ) → refusal_of state (Cancel account number) ≡ None → first_of (cancel_refusals state.book account number) ≡ None
cancel_none state account number none =
    let book = cancel_refusals state.book account number in
    none_unnamed book_name book (refl, (refl, tt)) (none_in_both (by_ledger (account_refusals state.accounts account)) (by_book book) none).1

-- the order that is cancelled is the account's
cancelled_own : (state : ExchangeState) (account number : ℕ) → refusal_of state (Cancel account number) ≡ None → (order : Order) → order_of state.book number ≡ Some order → account ≡ order.account
cancelled_own state account number none order found = by (nat_eq account order.account) refl
  where
    by : (b : Bool) → nat_eq account order.account ≡ b → account ≡ order.account
    by true is = grind (arith, nat_tests)
    by false is = let told = other_order state.book account number order found (λ same. grind (arith, nat_tests)) ∙ cancel_none state account number none in absurd (cc)

-- both sides of an order for one option are its owner's
pub of_side : (owners : Owned) (session : ℕ) (side : Side) (account : ℕ) → is_among (sender_of (side_word side)) session (owns owners session account) ≡ true → owns owners session account ≡ true
of_side owners session Buy account allowed = allowed
of_side owners session Sell account allowed = allowed

-- ---- what a session does
module _ (owners : Owned) (session : ℕ) (state : ExchangeState) where
  abbrev ByRule : Command → ExchangeState → Type 0
  ByRule command after = IsByRule owners session command state after

  abbrev Live : Command → ℕ → List Order → Type 0
  Live command market after = MovesOrders owners session command state market after

  still_live : (command : Command) (market : ℕ) → Live command market (live_of state.book market)
  still_live command market = record { placed = λ order at. inl at; gone = λ order at. inl at }

  none_live : (command : Command) (market : ℕ) → IsOperator session → IsEndedBy market command → Live command market []
  none_live command market operator ended = record { placed = λ order at. absurd (omega (arith, at.1)); gone = λ order at. inr (inr (operator, ended)) }

  no_entries : (command : Command) → AddsEntries owners session command state state.entries
  no_entries command = record { added = []; joined = sym (append-nil state.entries); each = All-nil (IsEntryBy owners session command state) }

  -- no order comes or goes
  in_ledger : (command : Command) (accounts : List ℕ) (entries : List Entry) → AddsEntries owners session command state entries
      → (let after = record state { accounts = accounts; entries = entries } in (after ≡ state) ⊎ ArePositionsBy session command state after → ByRule command after)
  in_ledger command accounts entries added same = record {
    entries = added;
    live = still_live command;
    markets = inl refl;
    positions = same;
  }

  pub unmoved : (command : Command) → ByRule command state
  unmoved command = in_ledger command state.accounts state.entries (no_entries command) (inl refl)

  -- an entry more
  entered : (command : Command) (entry : Entry) → IsEntryBy owners session command state entry → ArePositionsBy session command state (with_entry state entry) → ByRule command (with_entry state entry)
  entered command entry may same = in_ledger command state.accounts (state.entries ++ entry ∷ []) (record {
    added = entry ∷ [];
    joined = refl;
    each = All-cons (IsEntryBy owners session command state) entry [] may (All-nil (IsEntryBy owners session command state));
  }) (inr same)

  market_listed : (market underlyings : ℕ) → IsOperator session → ByRule (Market market underlyings) (effect state (Market market underlyings)).1
  market_listed market underlyings operator =
      let said = Market market underlyings in
      record {
        entries = no_entries said;
        live = λ other. subst (Live said other) (sym (live-listed other market underlyings state.book.markets)) (still_live said other);
        markets = inr operator;
        positions = inr refl;
      }

  order_placed : (command : Command) (new : NewOrder) → new_order_of command ≡ Some new → IsOwner owners session new.account → ArePositionsBy session command state (place_effect state new).1 → ByRule command (place_effect state new).1
  order_placed command new is own same =
      let before = live_of state.book new.market in
      let order = with_number (state.book.accepted + 1) new in
      let now = before ++ order ∷ [] in
      let by : IsPlacedBy owners session new.market command state order = (own, (new, is, refl, refl)) in
      let come : Live command new.market now = record {
        placed = λ x at. ⊎_elim (λ was. inl was) (λ it. inr (subst (IsPlacedBy owners session new.market command state) it by)) (Contains-push_cases before order x at);
        gone = λ x at. inl (Contains-append_left before (order ∷ []) x at);
      } in
      record {
        entries = no_entries command;
        live = λ market. live_changed (Live command) (λ m. with_live m now) new.market market (λ m. come) state.book.markets (still_live command market);
        markets = inl (listing-with_live_in new.market now state.book.markets);
        positions = inr same;
      }

  order_cancelled : (account number : ℕ) → IsKept state → refusal_of state (Cancel account number) ≡ None → IsOwner owners session account → ByRule (Cancel account number) (effect state (Cancel account number)).1
  order_cancelled account number kept none own =
      let said = Cancel account number in
      let markets = state.book.markets in
      let its = cancelled_own state account number none in
      let ours : (order : Order) → order_of state.book number ≡ Some order → IsCancelledBy owners session said state order =
      λ order found. (subst (IsOwner owners session) (its order found) own, (number, ap (λ (a : ℕ). Cancel a number) (its order found), found)) in
      let left : (market : ℕ) → Live said market (without number (live_in market markets)) = λ market. record {
        placed = λ order at. inl (was_there number (live_in market markets) order at);
        gone = λ order at. ⊎_elim (λ here. inl here) (λ found. inr (inl (ours order found))) (left_or_found number market markets order (kept.orders.book.numbers number) at);
      } in
      record {
        entries = no_entries said;
        live = λ market. subst (Live said market) (sym (live-without market number markets)) (left market);
        markets = inl (listing-without_in_each number markets);
        positions = inr refl;
      }

  batch_charged : (market budget : ℕ) (fills : List Frac128) → IsOperator session → AreFractionFills (batch_in state market).orders (map fraction_of fills) → ByRule (Clear market budget) (cleared_with state market fills)
  batch_charged market budget fills operator within =
      let said = Clear market budget in
      let orders = (batch_in state market).orders in
      let Cleared : Order → Type 0 = λ order. IsCleared said state order.account in
      let cleared = All-weaker (Contains orders) Cleared (λ order at. (order, at, refl)) orders (All-contains_itself orders) in
      record {
        entries = record {
          added = premium_entries (state.book.finished + 1) orders fills;
          joined = refl;
          each = all_premiums_by owners session said state operator (state.book.finished + 1) orders fills cleared;
        };
        live = λ other. live_changed (Live said) (λ m. with_live m []) market other (λ m. none_live said market operator refl) state.book.markets (still_live said other);
        markets = inr operator;
        positions = inr (operator, record { fills = fills; within = within; entries = refl; positions = refl });
      }

  market_settled : (market count : ℕ) (prices : List ℕ) → IsOperator session → ByRule (Settle market count prices) (effect state (Settle market count prices)).1
  market_settled market count prices operator =
      let said = Settle market count prices in
      let held = held_in market state.positions in
      let Settled : Position → Type 0 = λ position. IsSettled said state position.account in
      let settled = All-weaker (Contains held) Settled (λ position at. (position, at, refl)) held (All-contains_itself held) in
      record {
        entries = record {
          added = payoff_entries (payouts_of market (take count prices) state.positions);
          joined = refl;
          each = all_payoffs_by owners session said state operator (take count prices) held settled;
        };
        live = λ other. live_changed (Live said) settled_market market other (λ m. none_live said market operator refl) state.book.markets (still_live said other);
        markets = inr operator;
        positions = inr (operator, refl);
      }

  -- a command that the rule allows and the exchange accepts
  accepted : (command : Command) → IsKept state → is_allowed owners session (asks.Command command) ≡ true → refusal_of state command ≡ None → ByRule command (effect state command).1
  accepted (Open account) kept allowed none = in_ledger (Open account) (state.accounts ++ account ∷ []) state.entries (no_entries (Open account)) (inr refl)
  accepted (Deposit account amount) kept allowed none = entered (Deposit account amount) (deposit_of account amount) (allowed, (amount, refl)) refl
  accepted (Withdraw account amount) kept allowed none = entered (Withdraw account amount) (withdrawal_of account amount) (owner_is owners session account allowed, (amount, refl)) refl
  accepted (Market market underlyings) kept allowed none = market_listed market underlyings allowed
  accepted (Trade side account market kind strike price quantity count weights) kept allowed none =
      order_placed (Trade side account market kind strike price quantity count weights) (order_by side account market kind strike price quantity count weights) refl
      (owner_is owners session account (of_side owners session side account allowed)) refl
  accepted (Bundle side account market price quantity bundle) kept allowed none =
      order_placed (Bundle side account market price quantity bundle) (order_for side account market price quantity bundle) refl (owner_is owners session account allowed) refl
  accepted (Cancel account number) kept allowed none = order_cancelled account number kept none (owner_is owners session account allowed)
  accepted (Clear market budget) kept allowed none =
      batch_charged market budget (outcome_of (batch_in state market) budget).fills allowed (outcomes_are_within (batch_in state market) budget (batch_is_within state kept market none))
  accepted (Settle market count prices) kept allowed none = market_settled market count prices allowed
  accepted (Balance account) kept allowed none = unmoved (Balance account)

  -- and whether the exchange accepts it or not
  stepped : (command : Command) → IsKept state → is_allowed owners session (asks.Command command) ≡ true → ByRule command (step state command).1
  stepped command kept allowed = by (refusal_of state command) refl
    where
      by : (refused : Option Refusal) → refusal_of state command ≡ refused → ByRule command (option_map_or (refusal_effect state) refused (effect state command)).1
      by None none = accepted command kept allowed none
      by (Some refusal) told = unmoved command

-- ---- events
module _ (state : Managed) (event : Event) where
  pub allowed_if : refusal_to state event ≡ None → is_allowed state.members.owners (session_in event) (asks.Command (command_in event)) ≡ true
  allowed_if none = by (is_allowed state.members.owners (session_in event) (asks.Command (command_in event))) none
    where
      over : Bool
      over = is_over state.members state.exchange (session_in event) (asks.Command (command_in event))

      by : (b : Bool) → (if not b then Some NotAllowed else if over then Some Quota else None) ≡ None → b ≡ true
      by true h = refl
      by false h = cc

pub record Moves (state : Managed) (event : Event) (after : Managed) : Type 0 where
  pub rule : IsByRule state.members.owners (session_in event) (command_in event) state.exchange after.exchange
  pub keeps : IsKept after.exchange

passed : (state : Managed) (event : Event) → IsKept state.exchange → MayCome state event → is_allowed state.members.owners (session_in event) (asks.Command (command_in event)) ≡ true
    → Moves state event (after_passed state event)
passed state (Said session command) kept may allowed = record {
  rule = stepped state.members.owners session state.exchange command kept allowed;
  keeps = step_keeps state.exchange command kept may;
}
passed state (Charged session market budget fills) kept may allowed = record {
  rule = batch_charged state.members.owners session state.exchange market budget fills allowed may.1;
  keeps = clears_keep state.exchange market fills kept may.0 may.1;
}

pub moved : (state : Managed) (event : Event) → IsKept state.exchange → MayCome state event → Moves state event (after_event state event)
moved state event kept may = by (refusal_to state event) refl
  where
    by : (refused : Option MemberRefusal) → refusal_to state event ≡ refused → Moves state event (option_map_or (λ refusal. state) refused (after_passed state event))
    by None none = passed state event kept may (allowed_if state event none)
    by (Some refusal) told = record {
      rule = unmoved state.members.owners (session_in event) state.exchange (command_in event);
      keeps = kept;
    }

pub moves_are_by_rule : MovesAreByRule
moves_are_by_rule state [] kept come = tt
moves_are_by_rule state (event ∷ events) kept come =
    let first = moved state event kept come.0 in
    (first.rule, moves_are_by_rule (after_event state event) events first.keeps come.1)
