-- What is promised of owners, and of what an account has.
use Rattle.std.specs.Prelude.{ℕ, ◌+◌, ◌≡◌, ◌≤◌, ⊤, ◌⊎◌, Bool, true, false, List, [], ◌∷◌, ◌++◌, map, Option, Some, None}
use Rattle.std.specs.List.{All, Contains}
use Rattle.std.specs.Option.{option_map_or}
use Rattle.cash_ledger.specs.declared.entry.Cause.{Cause}
use Rattle.cash_ledger.specs.declared.entry.Cause.TheVariants as cause
use Rattle.cash_ledger.specs.declared.entry.Entry.{Entry}
use Rattle.clearing_model.specs.Certificate.{AreFractionFills}
use Rattle.form.specs.declared.orders.Order.{Order}
use Rattle.command_text.specs.declared.command.Command.{Command}
use Rattle.command_text.specs.declared.command.Command.TheVariants.{Deposit, Withdraw, Cancel, Clear, Settle, Balance}
use Rattle.command_text.specs.declared.requests.MarginRequest.{MarginRequest}
use Rattle.command_text.specs.declared.requests.Request.{Request}
use Rattle.command_text.specs.declared.requests.Request.TheVariants as asks
use Rattle.command_text.specs.Within.{IsWithin}
use Rattle.frac.specs.declared.frac128.Frac128.{Frac128}
use Rattle.frac.specs.Value.{fraction_of}
use Rattle.lists.specs.Refusals.{first_of}
use Rattle.order_book.specs.declared.new_order.NewOrder.{NewOrder}
use Rattle.order_book.specs.Book.{live_of, order_of, with_number}
use Rattle.order_book.specs.Markets.{Markets, MarketState}
use Rattle.order_book.specs.Refusals.{batch_refusals}
use Rattle.exchange_core.specs.ExchangeState.{ExchangeState}
use Rattle.exchange_core.specs.Kept.{IsKept}
use Rattle.exchange_core.specs.Orders.{order_of as new_order_of}
use Rattle.exchange_core.specs.Positions.{positions_in}
use Rattle.exchange_core.specs.Premiums.{premium_entries}
use Rattle.exchange_core.specs.Refusals.{by_book}
use Rattle.exchange_core.specs.Step.{batch_in, cleared_with, step}
use Rattle.settlement.specs.declared.position.Position.{Position}
use Rattle.settlement.specs.Positions.{held_in, outside}
use Rattle.members.specs.Members.{MembersState, Owned, after_reply, counted_of, is_allowed, may_ask, own_live, owner_of, owns}
use Rattle.members.specs.Refusals.{rule_refusals}
use Rattle.members.specs.Rule.{is_operator}
use Rattle.members.specs.declared.counts.Counted.{Counted}
use Rattle.members.specs.declared.quota.TheConstants.{MAX_OPENED, MAX_OWN_LIVE, MAX_PLACED}
use Rattle.members.specs.declared.refusal.MemberRefusal.{MemberRefusal}

-- an exchange, and its members
pub record Managed : Type 0 where
  pub exchange : ExchangeState
  pub members : MembersState

abbrev pub managed : ExchangeState → MembersState → Managed
managed exchange members = record { exchange = exchange; members = members }

-- what a session may say: a command; a clear of a market within a budget, whose fills others found
pub data Event : Type 0 where
  Said : ℕ → Command → Event
  Charged : ℕ → ℕ → ℕ → List Frac128 → Event

abbrev pub session_in : Event → ℕ
session_in (Said session command) = session
session_in (Charged session market budget fills) = session

abbrev pub command_in : Event → Command
command_in (Said session command) = command
command_in (Charged session market budget fills) = Clear market budget

-- ---- what each does
-- the rule's refusal
abbrev pub refusal_to : Managed → Event → Option MemberRefusal
refusal_to state event = first_of (rule_refusals state.members state.exchange (session_in event) (asks.Command (command_in event)))

-- what the rule lets through is carried out by the exchange, or refused by it
abbrev pub after_passed : Managed → Event → Managed
after_passed state (Said session command) =
    let done = step state.exchange command in
    managed done.1 (after_reply state.members session done.0)
after_passed state (Charged session market budget fills) = managed (cleared_with state.exchange market fills) state.members

abbrev pub after_event : Managed → Event → Managed
after_event state event = option_map_or (λ refusal. state) (refusal_to state event) (after_passed state event)

abbrev pub after_events : Managed → List Event → Managed
after_events state [] = state
after_events state (event ∷ events) = after_events (after_event state event) events

-- the numbers of a command are within the limits; fills are those of a market that may be cleared
abbrev pub MayCome : Managed → Event → Type 0
MayCome state (Said session command) = IsWithin command
MayCome state (Charged session market budget fills) =
    (first_of (by_book (batch_refusals state.exchange.book market)) ≡ None)
    × AreFractionFills (batch_in state.exchange market).orders (map fraction_of fills)

abbrev pub AreToCome : Managed → List Event → Type 0
AreToCome state [] = ⊤
AreToCome state (event ∷ events) = MayCome state event × AreToCome (after_event state event) events

-- ---- owners
-- an account that has an owner keeps it
abbrev pub OwnersStay : Type 0
OwnersStay =
    (state : Managed) (events : List Event) (account owner : ℕ) → owner_of state.members.owners account ≡ Some owner
    → owner_of (after_events state events).members.owners account ≡ Some owner

-- what the rule refuses changes neither exchange nor members
abbrev pub RefusedChangesNothing : Type 0
RefusedChangesNothing = (state : Managed) (event : Event) (refusal : MemberRefusal) → refusal_to state event ≡ Some refusal → after_event state event ≡ state

-- ---- quotas
abbrev pub IsWithinQuota : Counted → Type 0
IsWithinQuota counted = (counted.opened ≤ MAX_OPENED) × (counted.placed ≤ MAX_PLACED)

-- a session that is not the operator's stays within its part of what all share
abbrev pub QuotasHold : Type 0
QuotasHold =
    (state : Managed) (events : List Event) (session : ℕ) → is_operator session ≡ false → IsWithinQuota (counted_of state.members.counts session)
    → IsWithinQuota (counted_of (after_events state events).members.counts session)

-- in each market the accounts of a session have at most 64 live orders
abbrev pub HasFewLive : Managed → ℕ → Type 0
HasFewLive state session =
    All (λ (m : ℕ × MarketState). own_live state.members.owners session m.1.live ≤ MAX_OWN_LIVE) state.exchange.book.markets

-- those of a session that is not the operator's stay few
abbrev pub LiveOrdersAreFew : Type 0
LiveOrdersAreFew =
    (state : Managed) (events : List Event) (session : ℕ) → is_operator session ≡ false → IsKept state.exchange → AreToCome state events
    → HasFewLive state session → HasFewLive (after_events state events) session

-- ---- what is told
-- a session may say this neither as a message nor as a question
abbrev pub MayNotSay : Owned → ℕ → Request → Type 0
MayNotSay owners session request = (is_allowed owners session request ≡ false) × (may_ask owners session request ≡ false)

-- nor any line that tells of the account
pub record IsToldNothing (owners : Owned) (session account : ℕ) : Type 0 where
  pub balance : MayNotSay owners session (asks.Command (Balance account))
  pub positions : (market : ℕ) → MayNotSay owners session (asks.Positions account market)
  pub margin : (request : MarginRequest) → request.account ≡ account → MayNotSay owners session (asks.Margin request)
  pub need : MayNotSay owners session (asks.Need account)

-- of an account its owner is told, and the operator, and no other
abbrev pub OthersAreToldNothing : Type 0
OthersAreToldNothing =
    (owners : Owned) (session account : ℕ) → owns owners session account ≡ false → is_operator session ≡ false → IsToldNothing owners session account

-- ---- what an account has
abbrev pub IsOperator : ℕ → Type 0
IsOperator session = is_operator session ≡ true

abbrev pub IsOwner : Owned → ℕ → ℕ → Type 0
IsOwner owners session account = owner_of owners account ≡ Some session

-- the command clears a market in which an order of the account is live
abbrev pub IsCleared : Command → ExchangeState → ℕ → Type 0
IsCleared (Clear market budget) before account =
    (order : Order) × Contains (batch_in before market).orders order × (order.account ≡ account)
IsCleared command before account = ⊥

-- the command settles a market in which the account has a position
abbrev pub IsSettled : Command → ExchangeState → ℕ → Type 0
IsSettled (Settle market count prices) before account =
    (position : Position) × Contains (held_in market before.positions) position × (position.account ≡ account)
IsSettled command before account = ⊥

-- a deposit is the operator's doing, a withdrawal the owner's, each by its line; premiums and payoffs
-- are the operator's, by a clear or a settlement of what the account has, or the house's
abbrev pub MayCause : Owned → ℕ → Command → ExchangeState → ℕ → Cause → Type 0
MayCause owners session command before account cause.Deposit =
    IsOperator session × ((amount : ℕ) × (command ≡ Deposit account amount))
MayCause owners session command before account cause.Withdraw =
    IsOwner owners session account × ((amount : ℕ) × (command ≡ Withdraw account amount))
MayCause owners session command before account (cause.Premium batch) =
    IsOperator session × ((account ≡ 0) ⊎ IsCleared command before account)
MayCause owners session command before account (cause.Payoff batch) =
    IsOperator session × ((account ≡ 0) ⊎ IsSettled command before account)

abbrev pub IsEntryBy : Owned → ℕ → Command → ExchangeState → Entry → Type 0
IsEntryBy owners session command before entry = MayCause owners session command before entry.account entry.cause

-- the session owns the account of the order, and the command places it in the market
abbrev pub IsPlacedBy : Owned → ℕ → ℕ → Command → ExchangeState → Order → Type 0
IsPlacedBy owners session market command before order =
    IsOwner owners session order.account
    × ((new : NewOrder) × (new_order_of command ≡ Some new) × (new.market ≡ market) × (order ≡ with_number (before.book.accepted + 1) new))

-- or the command cancels it
abbrev pub IsCancelledBy : Owned → ℕ → Command → ExchangeState → Order → Type 0
IsCancelledBy owners session command before order =
    IsOwner owners session order.account
    × ((number : ℕ) × (command ≡ Cancel order.account number) × (order_of before.book number ≡ Some order))

-- or the command clears or settles the market
abbrev pub IsEndedBy : ℕ → Command → Type 0
IsEndedBy market (Clear cleared budget) = cleared ≡ market
IsEndedBy market (Settle settled count prices) = settled ≡ market
IsEndedBy market command = ⊥

-- the positions that are new and the entries, their premiums, are of the same fills of the orders that
-- are live in the market, none below 0 or above its order's quantity
pub record IsFilled (market : ℕ) (before after : ExchangeState) : Type 0 where
  pub fills : List Frac128
  pub within : AreFractionFills (batch_in before market).orders (map fraction_of fills)
  pub entries : after.entries ≡ before.entries ++ premium_entries (before.book.finished + 1) (batch_in before market).orders fills
  pub positions : after.positions ≡ before.positions ++ positions_in market (before.book.finished + 1) (batch_in before market).orders fills

-- positions come and go by the operator alone: a clear fills the orders of its market, a settlement
-- takes out the positions there
abbrev pub ArePositionsBy : ℕ → Command → ExchangeState → ExchangeState → Type 0
ArePositionsBy session (Clear market budget) before after = IsOperator session × IsFilled market before after
ArePositionsBy session (Settle market count prices) before after = IsOperator session × (after.positions ≡ outside market before.positions)
ArePositionsBy session command before after = after.positions ≡ before.positions

-- the markets that there are, each with its underlyings and whether it is settled
abbrev pub listing_of : Markets → List (ℕ × (ℕ × Bool))
listing_of markets = map (λ (m : ℕ × MarketState). (m.0, (m.1.underlyings, m.1.settled))) markets

-- the entries that are new are such as the session may cause by the command
pub record AddsEntries (owners : Owned) (session : ℕ) (command : Command) (before : ExchangeState) (after : List Entry) : Type 0 where
  pub added : List Entry
  pub joined : after ≡ before.entries ++ added
  pub each : All (IsEntryBy owners session command before) added

-- the orders that are live in a market come and go as the session may make them by the command
pub record MovesOrders (owners : Owned) (session : ℕ) (command : Command) (before : ExchangeState) (market : ℕ) (after : List Order) : Type 0 where
  -- one that is live was live there, or is of an account of the session, whose line places it there
  pub placed : (order : Order) → Contains after order → Contains (live_of before.book market) order ⊎ IsPlacedBy owners session market command before order
  -- one that was live there is live, or is of an account of the session, whose line cancels it, or the
  -- operator cleared or settled the market
  pub gone : (order : Order) → Contains (live_of before.book market) order
      → Contains after order ⊎ (IsCancelledBy owners session command before order ⊎ (IsOperator session × IsEndedBy market command))

-- what a session said changed this: from before to after, where these were the owners
pub record IsByRule (owners : Owned) (session : ℕ) (command : Command) (before after : ExchangeState) : Type 0 where
  pub entries : AddsEntries owners session command before after.entries
  pub live : (market : ℕ) → MovesOrders owners session command before market (live_of after.book market)
  -- markets are listed and settled by the operator alone
  pub markets : (listing_of after.book.markets ≡ listing_of before.book.markets) ⊎ IsOperator session
  -- and where anything is changed, positions are as the command makes them
  pub positions : (after ≡ before) ⊎ ArePositionsBy session command before after

-- each event of a list, in the state that stands before it
abbrev pub AreByRule : Managed → List Event → Type 0
AreByRule state [] = ⊤
AreByRule state (event ∷ events) =
    IsByRule state.members.owners (session_in event) (command_in event) state.exchange (after_event state event).exchange
    × AreByRule (after_event state event) events

-- what an account has changes by its owner's will, and by the operator's deposits, clears and
-- settlements
abbrev pub MovesAreByRule : Type 0
MovesAreByRule = (state : Managed) (events : List Event) → IsKept state.exchange → AreToCome state events → AreByRule state events
