-- A closed market stands still.
use Rattle.std.proofs.Common.{◌≡◌, ℕ, Bool, true, false, ◌&&◌, List, [], ◌∷◌, Option, Some, None, is_none, nat_eq, if◌then◌else◌, refl, sym, ap, ◌∙◌, arith}
use Rattle.std.specs.Option.{option_map_or}
use Rattle.std.proofs.lemmas.Bool.Decides.{nat_tests}
use Rattle.command_text.specs.declared.command.Command.{Command}
use Rattle.command_text.specs.declared.command.Command.TheVariants.{Open, Deposit, Withdraw, Market, Trade, Bundle, Cancel, Clear, Settle, Balance}
use Rattle.order_book.specs.Book.{live_of}
use Rattle.order_book.specs.Markets.{holder_of, settled_market, with_live}
use Rattle.order_book.proofs.LiveElsewhere.{live-cancelled, live-changed, live-listed}
use Rattle.exchange_core.specs.declared.refusal.Refusal.{Refusal}
use Rattle.exchange_core.specs.ExchangeState.{ExchangeState}
use Rattle.exchange_core.specs.Kept.{IsKept}
use Rattle.exchange_core.specs.Refusals.{refusal_of}
use Rattle.exchange_core.specs.Step.{effect, refusal_effect, step}
use Rattle.exchange_core.proofs.Keeping.{clears_keep, step_keeps}
use Rattle.auction_phases.specs.Laws.{after_event, ends, phased, ClosedMarketStandsStill, Event, Asked, Charged, Closing, Reopening, MayCome, Phased, StandsStill}
use Rattle.auction_phases.specs.Phases.{after_reply, bars, ended_by, is_closed, touched_by, with_closed, with_open}
use Rattle.auction_phases.specs.Refusals.{close_refusals, reopen_refusals}
use Rattle.auction_phases.specs.declared.refusal.PhaseRefusal.{PhaseRefusal}
use Rattle.lists.specs.Refusals.{first_of}
use Rattle.auction_phases.proofs.ClosedLists.{closed_more, stays_closed}

module _ (market : ℕ) (closed : List ℕ) (shut : is_closed closed market ≡ true) where
  -- ---- the closed markets
  pub open_other : (other : Option ℕ) → option_map_or (nat_eq market) other false ≡ false → is_closed (option_map_or (with_open closed) other closed) market ≡ true
  open_other None apart = shut
  open_other (Some other) apart = stays_closed market other apart closed shut

  -- ---- the live orders
  -- a market that is not closed is another
  not_here : (other : ℕ) → is_closed closed other ≡ false → nat_eq market other ≡ false
  not_here other open_there = by (nat_eq market other) refl
    where
      by : (b : Bool) → nat_eq market other ≡ b → nat_eq market other ≡ false
      by true same = let is : market ≡ other = grind (arith, nat_tests) in absurd (cc)
      by false differ = differ

  let_through : (a : Bool) → (a && true) ≡ false → a ≡ false
  let_through true h = cc
  let_through false h = refl

  module _ (state : ExchangeState) (kept : IsKept state) where
    -- what is accepted and not kept from the exchange leaves the live orders
    live_left : (command : Command) → option_map_or (is_closed closed) (touched_by state command) false ≡ false
        → option_map_or (nat_eq market) (ended_by (effect state command).0) false ≡ false
        → live_of (effect state command).1.book market ≡ live_of state.book market
    live_left (Open account) elsewhere meanwhile = refl
    live_left (Deposit account amount) elsewhere meanwhile = refl
    live_left (Withdraw account amount) elsewhere meanwhile = refl
    live_left (Market other underlyings) elsewhere meanwhile = live-listed market other underlyings state.book.markets
    live_left (Trade side account other kind strike price quantity count weights) elsewhere meanwhile =
        live-changed market other (not_here other elsewhere) (λ m. with_live m _) state.book.markets
    live_left (Bundle side account other price quantity bundle) elsewhere meanwhile =
        live-changed market other (not_here other elsewhere) (λ m. with_live m _) state.book.markets
    live_left (Cancel account order) elsewhere meanwhile =
        live-cancelled market order state.book.markets (kept.orders.book.numbers order)
        (λ (held : holder_of order state.book.markets ≡ Some market).
        let open_here = ap (λ o. option_map_or (is_closed closed) o false) (sym held) ∙ elsewhere in
        cc)
    live_left (Clear other budget) elsewhere meanwhile = live-changed market other meanwhile (λ m. with_live m []) state.book.markets
    live_left (Settle other count prices) elsewhere meanwhile = live-changed market other meanwhile settled_market state.book.markets
    live_left (Balance account) elsewhere meanwhile = refl

    -- whether it is accepted or not
    pub live_stepped : (command : Command) → bars closed state command ≡ false → option_map_or (nat_eq market) (ended_by (step state command).0) false ≡ false
        → live_of (step state command).1.book market ≡ live_of state.book market
    live_stepped command through meanwhile = by (refusal_of state command) through meanwhile
      where
        by : (refused : Option Refusal) → (option_map_or (is_closed closed) (touched_by state command) false && is_none refused) ≡ false
            → option_map_or (nat_eq market) (ended_by (option_map_or (refusal_effect state) refused (effect state command)).0) false ≡ false
            → live_of (option_map_or (refusal_effect state) refused (effect state command)).1.book market ≡ live_of state.book market
        by None h still = live_left command (let_through (option_map_or (is_closed closed) (touched_by state command) false) h) still
        by (Some refusal) h still = refl

-- ---- what comes
module _ (market : ℕ) (state : Phased) (kept : IsKept state.exchange) (shut : is_closed state.closed market ≡ true) where
  record Stands (after : Phased) : Type 0 where
    still : StandsStill market state after
    keeps : IsKept after.exchange

  unmoved : Stands state
  unmoved = record { still = record { closed = shut; live = refl }; keeps = kept }

  stands_asked : (command : Command) → MayCome state (Asked command) → ends market state (Asked command) ≡ false → Stands (after_event state (Asked command))
  stands_asked command may meanwhile = by (bars state.closed state.exchange command) refl
    where
      done : Phased
      done = record { exchange = (step state.exchange command).1; closed = after_reply state.closed (step state.exchange command).0 }

      by : (b : Bool) → bars state.closed state.exchange command ≡ b → Stands (if b then state else done)
      by true barred = unmoved
      by false through = record {
        still = record {
          closed = open_other market state.closed shut (ended_by (step state.exchange command).0) meanwhile;
          live = live_stepped market state.closed shut state.exchange kept command through meanwhile;
        };
        keeps = step_keeps state.exchange command kept may;
      }

  stands : (e : Event) → MayCome state e → ends market state e ≡ false → Stands (after_event state e)
  stands (Asked command) may meanwhile = stands_asked command may meanwhile
  stands (Charged other fills) may meanwhile = record {
    still = record {
      closed = stays_closed market other meanwhile state.closed shut;
      live = live-changed market other meanwhile (λ m. with_live m []) state.exchange.book.markets;
    };
    keeps = clears_keep state.exchange other fills kept may.0 may.1;
  }
  stands (Closing other) may meanwhile = by (first_of (close_refusals state.exchange state.closed other))
    where
      by : (refused : Option PhaseRefusal) → Stands (option_map_or (λ refusal. state) refused (phased state.exchange (with_closed state.closed other)))
      by None = record { still = record { closed = closed_more market other state.closed shut; live = refl }; keeps = kept }
      by (Some refusal) = unmoved
  stands (Reopening other) may meanwhile = by (first_of (reopen_refusals state.exchange state.closed other))
    where
      by : (refused : Option PhaseRefusal) → Stands (option_map_or (λ refusal. state) refused (phased state.exchange (with_open state.closed other)))
      by None = record { still = record { closed = stays_closed market other meanwhile state.closed shut; live = refl }; keeps = kept }
      by (Some refusal) = unmoved

pub closed_market_stands_still : ClosedMarketStandsStill
closed_market_stands_still market state [] kept shut meanwhile = record { closed = shut; live = refl }
closed_market_stands_still market state (e ∷ events) kept shut meanwhile =
    let first = stands market state kept shut e meanwhile.0 meanwhile.1 in
    let others = closed_market_stands_still market (after_event state e) events first.keeps first.still.closed meanwhile.2 in
    record { closed = others.closed; live = others.live ∙ first.still.live }
