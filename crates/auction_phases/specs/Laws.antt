-- What is promised of a closed market.
use Rattle.std.specs.Prelude.{ℕ, ◌≡◌, ⊤, Bool, true, false, List, [], ◌∷◌, map, nat_eq, None, if◌then◌else◌}
use Rattle.std.specs.Option.{option_map_or}
use Rattle.clearing_model.specs.Certificate.{AreFractionFills}
use Rattle.command_text.specs.declared.command.Command.{Command}
use Rattle.command_text.specs.Within.{IsWithin}
use Rattle.frac.specs.declared.frac128.Frac128.{Frac128}
use Rattle.frac.specs.Value.{fraction_of}
use Rattle.lists.specs.Refusals.{first_of}
use Rattle.order_book.specs.Book.{live_of}
use Rattle.order_book.specs.Refusals.{batch_refusals}
use Rattle.exchange_core.specs.ExchangeState.{ExchangeState}
use Rattle.exchange_core.specs.Kept.{IsKept}
use Rattle.exchange_core.specs.Refusals.{by_book}
use Rattle.exchange_core.specs.Step.{batch_in, cleared_with, step}
use Rattle.auction_phases.specs.Phases.{after_reply, bars, ended_by, ended_in, is_closed, with_closed, with_open}
use Rattle.auction_phases.specs.Refusals.{close_refusals, reopen_refusals}

-- an exchange, and its closed markets
pub record Phased : Type 0 where
  pub exchange : ExchangeState
  pub closed : List ℕ

abbrev pub phased : ExchangeState → List ℕ → Phased
phased exchange closed = record { exchange = exchange; closed = closed }

-- what may come: a command; a clear of a market with fills that others found; a market to be
-- closed, and one to be opened again
pub data Event : Type 0 where
  Asked : Command → Event
  Charged : ℕ → List Frac128 → Event
  Closing : ℕ → Event
  Reopening : ℕ → Event

-- ---- what each does
-- a command is carried out, unless a closed market keeps it from the exchange
abbrev pub after_command : Phased → Command → Phased
after_command state command =
    let done = step state.exchange command in
    if bars state.closed state.exchange command then state else phased done.1 (after_reply state.closed done.0)

abbrev pub after_event : Phased → Event → Phased
after_event state (Asked command) = after_command state command
after_event state (Charged market fills) = phased (cleared_with state.exchange market fills) (with_open state.closed market)
after_event state (Closing market) =
    option_map_or (λ refusal. state) (first_of (close_refusals state.exchange state.closed market))
    (phased state.exchange (with_closed state.closed market))
after_event state (Reopening market) =
    option_map_or (λ refusal. state) (first_of (reopen_refusals state.exchange state.closed market))
    (phased state.exchange (with_open state.closed market))

abbrev pub after_events : Phased → List Event → Phased
after_events state [] = state
after_events state (event ∷ events) = after_events (after_event state event) events

-- ---- and what none of them does
-- the event clears or settles the market, or is to open it again
abbrev pub ends : ℕ → Phased → Event → Bool
ends market state (Asked command) = option_map_or (nat_eq market) (ended_by (step state.exchange command).0) false
ends market state (Charged other fills) = nat_eq market other
ends market state (Closing other) = false
ends market state (Reopening other) = nat_eq market other

-- the numbers of a command are within the limits; fills are those of a market that may be cleared
abbrev pub MayCome : Phased → Event → Type 0
MayCome state (Asked command) = IsWithin command
MayCome state (Charged market fills) =
    (first_of (by_book (batch_refusals state.exchange.book market)) ≡ None)
    × AreFractionFills (batch_in state.exchange market).orders (map fraction_of fills)
MayCome state (Closing market) = ⊤
MayCome state (Reopening market) = ⊤

-- events as they may come, none of which clears, settles or opens the market
abbrev pub AreMeanwhile : ℕ → Phased → List Event → Type 0
AreMeanwhile market state [] = ⊤
AreMeanwhile market state (event ∷ events) =
    MayCome state event × (ends market state event ≡ false) × AreMeanwhile market (after_event state event) events

-- the market is closed, and its live orders are what they were
pub record StandsStill (market : ℕ) (before after : Phased) : Type 0 where
  pub closed : is_closed after.closed market ≡ true
  pub live : live_of after.exchange.book market ≡ live_of before.exchange.book market

-- what a command clears or settles is told by its reply as before it
abbrev pub EndsAreTold : Type 0
EndsAreTold = (state : ExchangeState) (command : Command) → ended_by (step state command).0 ≡ ended_in state command

abbrev pub ClosedMarketStandsStill : Type 0
ClosedMarketStandsStill =
    (market : ℕ) (state : Phased) (events : List Event) → IsKept state.exchange → is_closed state.closed market ≡ true
    → AreMeanwhile market state events → StandsStill market state (after_events state events)
