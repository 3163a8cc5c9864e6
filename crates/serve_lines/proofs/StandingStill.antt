-- A closed market stands still, whatever lines come.
use Rattle.std.proofs.Common.{◌≡◌, ℕ, Bool, true, false, List, [], ◌∷◌, Option, Some, None, nat_eq, Result, Ok, Err, if◌then◌else◌, refl, sym, ap, ◌∙◌, subst}
use Rattle.std.specs.Option.{option_map_or}
use Rattle.command_text.specs.declared.asked.Fault.{Fault}
use Rattle.command_text.specs.declared.command.Command.{Command}
use Rattle.command_text.specs.declared.command.Body.TheVariants as body
use Rattle.command_text.specs.declared.command.Command.TheVariants.{Open, Deposit, Withdraw, Market, Trade, Bundle, Cancel, Clear, Settle, Balance}
use Rattle.command_text.specs.declared.requests.Request.{Request}
use Rattle.command_text.specs.declared.requests.Request.TheVariants as asks
use Rattle.command_text.specs.declared.words.TheConstants.{SERVED}
use Rattle.command_text.specs.Said.{said_in}
use Rattle.exchange_core.specs.ExchangeState.{ExchangeState}
use Rattle.exchange_core.specs.Refusals.{by_book, refusal_of}
use Rattle.exchange_core.specs.Step.{step}
use Rattle.exchange_core.specs.declared.refusal.Refusal.{Refusal}
use Rattle.proposal_lines.specs.GuardedReplies.{plain_reply_to}
use Rattle.proposal_lines.specs.Withdrawals.{uncovered_by}
use Rattle.proposal_text.specs.declared.needs.Need.{Need}
use Rattle.lists.specs.Refusals.{first_of}
use Rattle.order_book.specs.Book.{live_of}
use Rattle.order_book.specs.Markets.{with_live}
use Rattle.order_book.specs.Refusals.{live_refusals}
use Rattle.order_book.proofs.LiveElsewhere.{live-changed}
use Rattle.proposal_text.specs.declared.replies.BoundedOutcome.{BoundedOutcome}
use Rattle.proposal_text.specs.declared.replies.ProposalReply.TheVariants as told
use Rattle.auction_phases.specs.Laws.{StandsStill}
use Rattle.auction_phases.specs.Phases.{bars, ended_in, is_closed, unless_refused}
use Rattle.auction_phases.specs.Refusals.{close_refusals, reopen_refusals}
use Rattle.auction_phases.specs.declared.refusal.PhaseRefusal.{PhaseRefusal}
use Rattle.auction_phases.proofs.ClosedLists.{closed_more, stays_closed}
use Rattle.auction_phases.proofs.Ends.{ends_are_told}
use Rattle.auction_phases.proofs.StandingStill.{live_stepped, open_other}
use Rattle.proposal_lines.specs.AllKinds.{said_reply}
use Rattle.proposal_lines.specs.Clears.{better_in, cleared_by}
use Rattle.proposal_lines.specs.Laws.{IsSound}
use Rattle.proposal_lines.specs.Output.{proposing_reply}
use Rattle.proposal_lines.specs.Proposed.{proposed_by, proposed_of, proposed_reply}
use Rattle.proposal_lines.specs.ProposingState.{ProposingState}
use Rattle.proposal_lines.specs.Reads as reads
use Rattle.proposal_lines.specs.declared.proposed.Proposed.{Proposed}
use Rattle.proposal_text.specs.declared.replies.ServedReply.{ServedReply}
use Rattle.proposal_text.specs.declared.replies.ServedReply.TheVariants.{Told}
use Rattle.proposal_lines.proofs.AsRun.{said_beside}
use Rattle.proposal_lines.proofs.SaidKinds as proposals
use Rattle.serve_lines.specs.Laws.{ClosedMarketsStandStill, ended_by_said, phased_of}
use Rattle.serve_lines.specs.Output.{handed_on, serving_line, serving_reply}
use Rattle.serve_lines.specs.Phased.{closed_effect, exchange_of, refused_by, reopened_effect, with_phases}
use Rattle.serve_lines.specs.ServingState.{ServingState}
use Rattle.serve_lines.proofs.LineKinds.{by_kind}
use Rattle.serve_lines.proofs.Telling.{serving_sound}

-- ---- the exchange behind a line
-- a proposal leaves it
pub proposed_leaves : (state : ProposingState) (said : Result Proposed Fault) → (proposed_reply state said).1.exchange ≡ state.exchange
proposed_leaves state (Err fault) = refl
proposed_leaves state (Ok proposed) = by (first_of (by_book (live_refusals state.exchange.book proposed.market)))
  where
    by : (refused : Option Refusal) → (option_map_or (λ first. (reads.refused_by first, state)) refused (proposed_by state proposed)).1.exchange ≡ state.exchange
    by None = refl
    by (Some first) = refl

-- other lines than commands leave it
pub reply_leaves : (state : ProposingState) (line : List ℕ) (said : Result Request Fault) → ((command : Command) → said ≡ Ok (asks.Command command) → ⊥)
    → (proposing_reply state line said).1.exchange ≡ state.exchange
reply_leaves state line =
    proposals.by_kind (λ said. ((command : Command) → said ≡ Ok (asks.Command command) → ⊥) → (proposing_reply state line said).1.exchange ≡ state.exchange)
    (λ request none. proposed_leaves state (proposed_of line request))
    (λ market budget none. absurd (none (Clear market budget) refl))
    (λ market count prices none. absurd (none (Settle market count prices) refl))
    (λ market none. refl)
    (λ account market none. refl)
    (λ request none. refl)
    (λ said other none. ap (λ (now : ServedReply × ProposingState). now.1.exchange) (other.served state line) ∙ (said_beside 0 state.exchange said none).1)

module _ (market : ℕ) (state : ServingState) (sound : IsSound state.proposing) (shut : is_closed state.closed market ≡ true) where
  abbrev exchange : ExchangeState
  exchange = exchange_of state

  abbrev IsAsLive : ExchangeState → Type 0
  IsAsLive after = live_of after.book market ≡ live_of exchange.book market

  abbrev Stands : ServingState → Type 0
  Stands after = StandsStill market (phased_of state) (phased_of after)

  unmoved : Stands state
  unmoved = record { closed = shut; live = refl }

  -- the market is not this one
  abbrev IsElsewhere : Option ℕ → Type 0
  IsElsewhere ended = option_map_or (nat_eq market) ended false ≡ false

  -- ---- a clear of another market, by whatever outcome
  cleared_elsewhere : (other budget : ℕ) (refused : Option Refusal) → IsElsewhere (unless_refused refused other) → (better : Option BoundedOutcome)
      → IsAsLive (option_map_or (λ first. (reads.refused_by first, state.proposing)) refused (cleared_by state.proposing other budget better)).1.exchange
  cleared_elsewhere other budget (Some first) elsewhere better = refl
  cleared_elsewhere other budget None elsewhere None = live-changed market other elsewhere (λ m. with_live m []) exchange.book.markets
  cleared_elsewhere other budget None elsewhere (Some outcome) = live-changed market other elsewhere (λ m. with_live m []) exchange.book.markets

  -- ---- a command that the exchange carries out, unless a withdrawal is uncovered
  module _ (command : Command) (through : bars state.closed exchange command ≡ false) (elsewhere : IsElsewhere (ended_in exchange command)) where
    stepped : IsAsLive (step exchange command).1
    stepped =
        live_stepped market state.closed shut exchange sound.kept command through
        (ap (λ (ended : Option ℕ). option_map_or (nat_eq market) ended false) (ends_are_told exchange command) ∙ elsewhere)

    carried_out : (need : Option Need) → IsAsLive (option_map_or (λ need. (Told (told.Uncovered need), exchange)) need (plain_reply_to exchange (body.Command command))).1
    carried_out None = stepped
    carried_out (Some need) = refl

    said_stands : IsAsLive (said_reply exchange (Ok (asks.Command command))).1
    said_stands = carried_out (uncovered_by exchange (body.Command command))

  -- by the command
  command_live : (line : List ℕ) (command : Command) → bars state.closed exchange command ≡ false → IsElsewhere (ended_in exchange command)
      → IsAsLive (proposing_reply state.proposing line (Ok (asks.Command command))).1.exchange
  command_live line (Clear other budget) through elsewhere =
      cleared_elsewhere other budget (refusal_of exchange (Clear other budget)) elsewhere (better_in state.proposing other budget)
  command_live line (Open account) through elsewhere = said_stands (Open account) through elsewhere
  command_live line (Deposit account amount) through elsewhere = said_stands (Deposit account amount) through elsewhere
  command_live line (Withdraw account amount) through elsewhere = said_stands (Withdraw account amount) through elsewhere
  command_live line (Market other underlyings) through elsewhere = said_stands (Market other underlyings) through elsewhere
  command_live line (Trade side account other kind strike price quantity count weights) through elsewhere =
      said_stands (Trade side account other kind strike price quantity count weights) through elsewhere
  command_live line (Bundle side account other price quantity bundle) through elsewhere =
      said_stands (Bundle side account other price quantity bundle) through elsewhere
  command_live line (Cancel account order) through elsewhere = said_stands (Cancel account order) through elsewhere
  command_live line (Settle other count prices) through elsewhere = stepped (Settle other count prices) through elsewhere
  command_live line (Balance account) through elsewhere = said_stands (Balance account) through elsewhere

  -- ---- a line
  handed_stands : (line : List ℕ) (said : Result Request Fault) (ended : Option ℕ) → IsElsewhere ended
      → IsAsLive (proposing_reply state.proposing line said).1.exchange → Stands (handed_on state line said ended).1
  handed_stands line said ended elsewhere live = record { closed = open_other market state.closed shut ended elsewhere; live = live }

  -- one that leaves the exchange
  left_stands : (line : List ℕ) (said : Result Request Fault) → (proposing_reply state.proposing line said).1.exchange ≡ exchange
      → Stands (handed_on state line said None).1
  left_stands line said same = handed_stands line said None refl (ap (λ (e : ExchangeState). live_of e.book market) same)

  command_stands : (line : List ℕ) (command : Command) → IsElsewhere (ended_in exchange command) → Stands (serving_reply state line (Ok (asks.Command command))).1
  command_stands line command elsewhere = by (bars state.closed exchange command) refl
    where
      said : Result Request Fault
      said = Ok (asks.Command command)

      by : (barred : Bool) → bars state.closed exchange command ≡ barred
          → Stands (if barred then (Told told.MarketIsClosed, state) else handed_on state line said (ended_in exchange command)).1
      by true is = unmoved
      by false through = handed_stands line said (ended_in exchange command) elsewhere (command_live line command through elsewhere)

  close_stands : (other : ℕ) (refused : Option PhaseRefusal) → Stands (with_phases state (option_map_or (λ first. (refused_by first, state.closed)) refused (closed_effect exchange state.closed other))).1
  close_stands other None = record { closed = closed_more market other state.closed shut; live = refl }
  close_stands other (Some first) = record { closed = shut; live = refl }

  reopen_stands : (other : ℕ) → nat_eq market other ≡ false → (refused : Option PhaseRefusal)
      → Stands (with_phases state (option_map_or (λ first. (refused_by first, state.closed)) refused (reopened_effect state.closed other))).1
  reopen_stands other apart None = record { closed = stays_closed market other apart state.closed shut; live = refl }
  reopen_stands other apart (Some first) = record { closed = shut; live = refl }

  said_line_stands : (line : List ℕ) (said : Result Request Fault) → IsElsewhere (ended_by_said state said) → Stands (serving_reply state line said).1
  said_line_stands line =
      by_kind (λ said. IsElsewhere (ended_by_said state said) → Stands (serving_reply state line said).1)
      (λ other elsewhere. close_stands other (first_of (close_refusals exchange state.closed other)))
      (λ other elsewhere. reopen_stands other elsewhere (first_of (reopen_refusals exchange state.closed other))) (command_stands line)
      (λ said other elsewhere.
      subst (λ (now : ServedReply × ServingState). Stands now.1) (sym (other.handed state line)) (left_stands line said (reply_leaves state.proposing line said other.none)))

-- ---- all lines
pub closed_markets_stand_still : ClosedMarketsStandStill
closed_markets_stand_still market state [] sound shut meanwhile = record { closed = shut; live = refl }
closed_markets_stand_still market state (line ∷ lines) sound shut meanwhile =
    let now = serving_line line.number state line.bytes in
    let first : StandsStill market (phased_of state) (phased_of now.1) = said_line_stands market state sound shut line.bytes (said_in SERVED line.bytes) meanwhile.0 in
    let others = closed_markets_stand_still market now.1 lines (serving_sound line state sound) first.closed meanwhile.1 in
    record { closed = others.closed; live = others.live ∙ first.live }
