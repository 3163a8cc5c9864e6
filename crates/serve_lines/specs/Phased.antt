-- What a line is answered that closes a market, or opens it again.
use Rattle.std.specs.Prelude.{ℕ, List, length}
use Rattle.std.specs.Option.{option_map_or}
use Rattle.lists.specs.Refusals.{first_of}
use Rattle.order_book.specs.Book.{live_of}
use Rattle.exchange_core.specs.ExchangeState.{ExchangeState}
use Rattle.auction_phases.specs.Phases.{with_closed, with_open}
use Rattle.auction_phases.specs.Refusals.{close_refusals, reopen_refusals}
use Rattle.auction_phases.specs.declared.refusal.PhaseRefusal.{PhaseRefusal}
use Rattle.auction_phases.specs.declared.refusal.PhaseRefusal.TheVariants.{Exchange, Closed, Open}
use Rattle.proposal_text.specs.declared.replies.ProposalReply.TheVariants as told
use Rattle.proposal_lines.specs.Reads as reads
use Rattle.proposal_text.specs.declared.replies.ServedReply.{ServedReply}
use Rattle.proposal_text.specs.declared.replies.ServedReply.TheVariants.{Told}
use Rattle.serve_lines.specs.ServingState.{ServingState, serving_of}

abbrev pub refused_by : PhaseRefusal → ServedReply
refused_by (Exchange first) = reads.refused_by first
refused_by Closed = Told told.MarketIsClosed
refused_by Open = Told told.MarketIsOpen

abbrev pub exchange_of : ServingState → ExchangeState
exchange_of state = state.proposing.exchange

-- ---- by the exchange and the closed markets
abbrev pub closed_effect : ExchangeState → List ℕ → ℕ → ServedReply × List ℕ
closed_effect exchange closed market = (Told (told.Closed market (length (live_of exchange.book market))), with_closed closed market)

-- the first refusal, or the market is closed, and how many live orders it has is told
abbrev pub closed_by : ExchangeState → List ℕ → ℕ → ServedReply × List ℕ
closed_by exchange closed market =
    option_map_or (λ first. (refused_by first, closed)) (first_of (close_refusals exchange closed market)) (closed_effect exchange closed market)

abbrev pub reopened_effect : List ℕ → ℕ → ServedReply × List ℕ
reopened_effect closed market = (Told (told.Reopened market), with_open closed market)

abbrev pub reopened_by : ExchangeState → List ℕ → ℕ → ServedReply × List ℕ
reopened_by exchange closed market =
    option_map_or (λ first. (refused_by first, closed)) (first_of (reopen_refusals exchange closed market)) (reopened_effect closed market)

-- ---- of the whole
abbrev pub with_phases : ServingState → ServedReply × List ℕ → ServedReply × ServingState
with_phases state now = (now.0, serving_of state.proposing now.1)

abbrev pub close_reply : ServingState → ℕ → ServedReply × ServingState
close_reply state market = with_phases state (closed_by (exchange_of state) state.closed market)

abbrev pub reopen_reply : ServingState → ℕ → ServedReply × ServingState
reopen_reply state market = with_phases state (reopened_by (exchange_of state) state.closed market)
