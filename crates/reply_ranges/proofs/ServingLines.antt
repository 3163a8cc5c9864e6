-- Each line of `serve` is sound, and what is left stands before the next one.
use Rattle.std.proofs.Common.{◌≡◌, ℕ, ◌+◌, ◌≤◌, List, [], ◌∷◌, Bool, true, false, not, length, if◌then◌else◌, Option, Some, None, Result, Ok, refl, sym, subst, arith}
use Rattle.std.specs.Prelude.{IfOk}
use Rattle.std.specs.Option.{option_map_or}
use Rattle.command_text.specs.declared.asked.Fault.{Fault}
use Rattle.command_text.specs.declared.requests.Request.{Request}
use Rattle.command_text.specs.declared.requests.Request.TheVariants as asks
use Rattle.command_text.specs.declared.words.TheConstants.{SERVED}
use Rattle.command_text.specs.Said.{said_in}
use Rattle.command_text.specs.Within.{IsMarket, RequestIsWithin}
use Rattle.command_text.proofs.ReadWithin.{said_is_within}
use Rattle.exchange_core.specs.ExchangeState.{ExchangeState}
use Rattle.exchange_core.specs.declared.refusal.Refusal.TheVariants as refusal
use Rattle.form.specs.declared.limits.TheConstants.{MAX_ORDERS}
use Rattle.lists.specs.Refusals.{first_of}
use Rattle.order_book.specs.Book.{live_of, market_of}
use Rattle.order_book.specs.Markets.{MarketState}
use Rattle.order_book.specs.Refusals.{is_market, is_settled}
use Rattle.order_book.proofs.BookKept.{market_kept}
use Rattle.reply_print.specs.Within.{IsLine}
use Rattle.proposal_text.specs.declared.replies.ProposalReply.TheVariants as told
use Rattle.proposal_text.specs.declared.replies.ServedReply.{ServedReply}
use Rattle.proposal_text.specs.declared.replies.ServedReply.TheVariants.{Told}
use Rattle.auction_phases.specs.Phases.{bars, ended_in, is_closed}
use Rattle.auction_phases.specs.declared.refusal.PhaseRefusal.{PhaseRefusal}
use Rattle.auction_phases.specs.declared.refusal.PhaseRefusal.TheVariants.{Exchange, Closed, Open}
use Rattle.proposal_lines.specs.Output.{proposing_reply}
use Rattle.serve_lines.specs.Output.{handed_on, serving_line, serving_reply}
use Rattle.serve_lines.specs.Phased.{close_reply, closed_effect, exchange_of, refused_by, reopen_reply, reopened_effect, with_phases}
use Rattle.serve_lines.specs.ServingState.{ServingState}
use Rattle.serve_lines.proofs.LineKinds.{by_kind}
use Rattle.reply_ranges.proofs.Others.{refusal_served}
use Rattle.reply_ranges.proofs.ServedLines.{Stands, answers, passes}
use Rattle.reply_ranges.proofs.Texts.{IsServedReply, IsServedText, proposal_text}

-- before the line of a number
abbrev pub StandsServing : ℕ → ServingState → Type 0
StandsServing number state = Stands number state.proposing

-- ---- the reply to a line
module _ (number : ℕ) (is_line : IsLine number) (state : ServingState) (stands : StandsServing number state) where
  abbrev exchange : ExchangeState
  exchange = exchange_of state

  abbrev IsServedNow : ServedReply × ServingState → Type 0
  IsServedNow now = IsServedReply number now.0 × StandsServing (number + 1) now.1

  -- ---- by phases
  few_live : (market : ℕ) → length (live_of exchange.book market) ≤ MAX_ORDERS
  few_live market = by (market_of exchange.book market) refl
    where
      by : (found : Option MarketState) → market_of exchange.book market ≡ found → length (option_map_or (λ (m : MarketState). m.live) found []) ≤ MAX_ORDERS
      by None e = omega arith
      by (Some m) e = (market_kept exchange.book stands.sound.kept.orders.book market m e).room

  phased_served : (now : ServedReply × List ℕ) → IsServedReply number now.0 → IsServedNow (with_phases state now)
  phased_served now text = (text, passes number state.proposing stands)

  no_market : IsServedReply number (refused_by (Exchange refusal.NoMarket))
  no_market = refusal_served number is_line exchange stands.exchange refusal.NoMarket ((omega arith, omega arith), refl)

  settled : IsServedReply number (refused_by (Exchange refusal.Settled))
  settled = refusal_served number is_line exchange stands.exchange refusal.Settled ((omega arith, omega arith), refl)

  is_closed_served : IsServedReply number (Told told.MarketIsClosed)
  is_closed_served = proposal_text number told.MarketIsClosed (is_line, tt) tt

  is_open_served : IsServedReply number (Told told.MarketIsOpen)
  is_open_served = proposal_text number told.MarketIsOpen (is_line, tt) tt

  -- refused by the market, or by its phase, or done
  by_refusal : (missing over phase : Bool) (last : PhaseRefusal) → IsServedReply number (refused_by last) → (done : ServedReply × List ℕ) → IsServedReply number done.0
      → IsServedNow (with_phases state
      (option_map_or (λ first. (refused_by first, state.closed)) (first_of ((missing, Exchange refusal.NoMarket) ∷ (over, Exchange refusal.Settled) ∷ (phase, last) ∷ [])) done))
  by_refusal true over phase last is done served = phased_served (refused_by (Exchange refusal.NoMarket), state.closed) no_market
  by_refusal false true phase last is done served = phased_served (refused_by (Exchange refusal.Settled), state.closed) settled
  by_refusal false false true last is done served = phased_served (refused_by last, state.closed) is
  by_refusal false false false last is done served = phased_served done served

  close_served : (market : ℕ) → IsMarket market → IsServedNow (close_reply state market)
  close_served market listed =
      by_refusal (not (is_market exchange.book market)) (is_settled exchange.book market) (is_closed state.closed market) Closed is_closed_served
      (closed_effect exchange state.closed market)
      (proposal_text number (told.Closed market (length (live_of exchange.book market))) (is_line, (listed, few_live market)) tt)

  reopen_served : (market : ℕ) → IsMarket market → IsServedNow (reopen_reply state market)
  reopen_served market listed =
      by_refusal (not (is_market exchange.book market)) (is_settled exchange.book market) (not (is_closed state.closed market)) Open is_open_served
      (reopened_effect state.closed market) (proposal_text number (told.Reopened market) (is_line, listed) tt)

  -- ---- by what it says
  module _ (line : List ℕ) where
    handed_served : (said : Result Request Fault) → said_in SERVED line ≡ said → (ended : Option ℕ) → IsServedNow (handed_on state line said ended)
    handed_served said is ended =
        subst (λ (said : Result Request Fault). IsServedReply number (proposing_reply state.proposing line said).0 × Stands (number + 1) (proposing_reply state.proposing line said).1) is
        (answers number is_line state.proposing stands line)

    command_served : (said : Result Request Fault) → said_in SERVED line ≡ said → (ended : Option ℕ) (barred : Bool)
        → IsServedNow (if barred then (Told told.MarketIsClosed, state) else handed_on state line said ended)
    command_served said is ended true = (is_closed_served, passes number state.proposing stands)
    command_served said is ended false = handed_served said is ended

    said_serving : (said : Result Request Fault) → said_in SERVED line ≡ said → IfOk said RequestIsWithin → IsServedNow (serving_reply state line said)
    said_serving =
        by_kind (λ said. said_in SERVED line ≡ said → IfOk said RequestIsWithin → IsServedNow (serving_reply state line said))
        (λ market is within. close_served market within) (λ market is within. reopen_served market within)
        (λ command is within. command_served (Ok (asks.Command command)) is (ended_in exchange command) (bars state.closed exchange command))
        (λ said other is within. subst IsServedNow (sym (other.handed state line)) (handed_served said is None))

    pub serving_answers : IsServedText (serving_line number state line).0 × StandsServing (number + 1) (serving_line number state line).1
    serving_answers = said_serving (said_in SERVED line) refl (said_is_within SERVED line)
