-- What is written for an input is told line by line, and keeps what is promised.
use Rattle.std.proofs.Common.{◌≡◌, ℕ, List, Bool, true, false, Option, Some, None, Result, Ok, if◌then◌else◌, refl, sym, ap, ◌∙◌, subst}
use Rattle.std.specs.Option.{option_map_or}
use Rattle.command_text.specs.declared.asked.Fault.{Fault}
use Rattle.command_text.specs.declared.requests.PriceRequest.{PriceRequest}
use Rattle.command_text.specs.declared.requests.QuoteRequest.{QuoteRequest}
use Rattle.command_text.specs.declared.requests.Request.{Request}
use Rattle.command_text.specs.declared.requests.Request.TheVariants as asks
use Rattle.command_text.specs.declared.requests.TryRequest.{TryRequest}
use Rattle.command_text.specs.declared.words.TheConstants.{SERVED}
use Rattle.command_text.specs.Said.{said_in}
use Rattle.exchange_lines.specs.LineSteps.{InputLine}
use Rattle.lists.specs.Refusals.{first_of}
use Rattle.auction_phases.specs.Phases.{bars, ended_in}
use Rattle.auction_phases.specs.Refusals.{close_refusals, reopen_refusals}
use Rattle.auction_phases.specs.declared.refusal.PhaseRefusal.{PhaseRefusal}
use Rattle.auction_phases.specs.declared.refusal.PhaseRefusal.TheVariants.{Exchange, Closed, Open}
use Rattle.proposal_text.specs.declared.replies.ProposalReply.TheVariants as told
use Rattle.proposal_lines.specs.Laws.{IsSound}
use Rattle.proposal_lines.specs.Output.{proposing_said}
use Rattle.proposal_lines.specs.Promises.{TellsAsked}
use Rattle.proposal_lines.specs.ProposingState.{ProposingState}
use Rattle.proposal_text.specs.Pieces.{written_reply}
use Rattle.proposal_text.specs.declared.replies.ServedReply.{ServedReply}
use Rattle.proposal_text.specs.declared.replies.ServedReply.TheVariants.{Told}
use Rattle.proposal_lines.proofs.AskedLines.{asked_told, with_exchange}
use Rattle.proposal_lines.proofs.Beside.{IsBeside, beside_text, refusal_beside}
use Rattle.proposal_lines.proofs.Telling.{IsTold, TellsLine, beside_told, line_told, outputs_tell_by}
use Rattle.serve_lines.specs.Output.{handed_on, serving_line, serving_reply}
use Rattle.serve_lines.specs.Phased.{close_reply, closed_effect, exchange_of, refused_by, reopen_reply, reopened_effect, with_phases}
use Rattle.serve_lines.specs.Promises.{OutputsTellServing}
use Rattle.serve_lines.specs.ServingState.{ServingState, empty_serving, serving_of}
use Rattle.serve_lines.proofs.LineKinds.{by_kind}

abbrev proposing_of : ServingState → ProposingState
proposing_of state = state.proposing

-- a refusal tells of nothing that is taken
phase_beside : (refusal : PhaseRefusal) → IsBeside (refused_by refusal)
phase_beside (Exchange first) = refusal_beside first
phase_beside Closed = tt
phase_beside Open = tt

module _ (line : InputLine) (state : ServingState) (sound : IsSound state.proposing) where
  record Tells (now : List ℕ × ServingState) : Type 0 where
    line_is : IsTold state.proposing line (now.0, now.1.proposing)
    asked_is : TellsAsked state.proposing line (now.0, now.1.proposing.exchange)

  -- a reply, as it is written
  abbrev Answers : ServedReply × ServingState → Type 0
  Answers now = Tells (written_reply line.number now)

  -- ---- answered as where there are no phases
  handed_told : (said : Result Request Fault) → said_in SERVED line.bytes ≡ said → (ended : Option ℕ) → Answers (handed_on state line.bytes said ended)
  handed_told said is ended = record {
    line_is = subst (λ (said : Result Request Fault). IsTold state.proposing line (proposing_said line.number state.proposing line.bytes said)) is (line_told state.proposing line sound);
    asked_is = subst (λ (said : Result Request Fault). TellsAsked state.proposing line (with_exchange (proposing_said line.number state.proposing line.bytes said))) is
        (asked_told state.proposing line sound);
  }

  -- ---- answered by its phase
  -- the line asks for no quote and no prices, and tries no order
  record AsksNothing (said : Result Request Fault) : Type 0 where
    quote : (request : QuoteRequest) → said ≡ Ok (asks.Quote request) → ⊥
    prices : (request : PriceRequest) → said ≡ Ok (asks.Price request) → ⊥
    trial : (request : TryRequest) → said ≡ Ok (asks.Try request) → ⊥

  phased_told : (said : Result Request Fault) → said_in SERVED line.bytes ≡ said → AsksNothing said → (reply : ServedReply) → IsBeside reply
      → (after : ServingState) → after.proposing ≡ state.proposing → Answers (reply, after)
  phased_told said is nothing reply beside after same = record {
    line_is = beside_told state.proposing line sound ((written_reply line.number (reply, after)).0, after.proposing) (beside_text line.number reply beside)
        (ap (λ (p : ProposingState). p.exchange) same) (ap (λ (p : ProposingState). p.kept) same);
    asked_is = record {
      quote = λ request says none. absurd (nothing.quote request (sym is ∙ says));
      prices = λ request says none. absurd (nothing.prices request (sym is ∙ says));
      trial = λ request says none. absurd (nothing.trial request (sym is ∙ says));
    };
  }

  close_told : (market : ℕ) → said_in SERVED line.bytes ≡ Ok (asks.Close market) → Answers (close_reply state market)
  close_told market is = by (first_of (close_refusals (exchange_of state) state.closed market))
    where
      nothing : AsksNothing (Ok (asks.Close market))
      nothing = record { quote = λ request e. cc; prices = λ request e. cc; trial = λ request e. cc }

      answered : (now : ServedReply × List ℕ) → IsBeside now.0 → Answers (with_phases state now)
      answered now beside = phased_told (Ok (asks.Close market)) is nothing now.0 beside (serving_of state.proposing now.1) refl

      by : (refused : Option PhaseRefusal) → Answers (with_phases state
          (option_map_or (λ first. (refused_by first, state.closed)) refused (closed_effect (exchange_of state) state.closed market)))
      by None = answered (closed_effect (exchange_of state) state.closed market) tt
      by (Some first) = answered (refused_by first, state.closed) (phase_beside first)

  reopen_told : (market : ℕ) → said_in SERVED line.bytes ≡ Ok (asks.Reopen market) → Answers (reopen_reply state market)
  reopen_told market is = by (first_of (reopen_refusals (exchange_of state) state.closed market))
    where
      nothing : AsksNothing (Ok (asks.Reopen market))
      nothing = record { quote = λ request e. cc; prices = λ request e. cc; trial = λ request e. cc }

      answered : (now : ServedReply × List ℕ) → IsBeside now.0 → Answers (with_phases state now)
      answered now beside = phased_told (Ok (asks.Reopen market)) is nothing now.0 beside (serving_of state.proposing now.1) refl

      by : (refused : Option PhaseRefusal) → Answers (with_phases state
          (option_map_or (λ first. (refused_by first, state.closed)) refused (reopened_effect state.closed market)))
      by None = answered (reopened_effect state.closed market) tt
      by (Some first) = answered (refused_by first, state.closed) (phase_beside first)

  -- a command, which a closed market may keep from the exchange
  command_told : (said : Result Request Fault) → said_in SERVED line.bytes ≡ said → AsksNothing said → (ended : Option ℕ) (barred : Bool)
      → Answers (if barred then (Told told.MarketIsClosed, state) else handed_on state line.bytes said ended)
  command_told said is nothing ended true = phased_told said is nothing (Told told.MarketIsClosed) tt state refl
  command_told said is nothing ended false = handed_told said is ended

  -- ---- by what it says
  said_told : (said : Result Request Fault) → said_in SERVED line.bytes ≡ said → Answers (serving_reply state line.bytes said)
  said_told =
      by_kind (λ said. said_in SERVED line.bytes ≡ said → Answers (serving_reply state line.bytes said)) close_told reopen_told
      (λ command is.
      command_told (Ok (asks.Command command)) is (record { quote = λ request e. cc; prices = λ request e. cc; trial = λ request e. cc })
      (ended_in (exchange_of state) command) (bars state.closed (exchange_of state) command))
      (λ said other is. subst Answers (sym (other.handed state line.bytes)) (handed_told said is None))

  -- the state after it is sound
  pub serving_sound : IsSound (serving_line line.number state line.bytes).1.proposing
  serving_sound = (said_told (said_in SERVED line.bytes) refl).line_is.sound

pub serving_told : (line : InputLine) (state : ServingState) → IsSound state.proposing → TellsLine proposing_of serving_line line state
serving_told line state sound = let now = said_told line state sound (said_in SERVED line.bytes) refl in record { line_is = now.line_is; asked_is = now.asked_is }

pub outputs_tell_serving : OutputsTellServing
outputs_tell_serving = outputs_tell_by proposing_of serving_line serving_told empty_serving refl
