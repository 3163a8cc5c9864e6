-- A line of `serve` treats alike what is kept of proposals: what is no worse before it is no worse
-- after it.
use Rattle.std.proofs.Common.{◌≡◌, ℕ, Bool, true, false, List, Option, None, Result, Ok, if◌then◌else◌, refl, sym, subst}
use Rattle.auction_phases.specs.Phases.{bars, ended_in}
use Rattle.command_text.specs.declared.asked.Fault.{Fault}
use Rattle.command_text.specs.declared.command.Command.{Command}
use Rattle.command_text.specs.declared.command.Command.TheVariants.{Clear, Withdraw}
use Rattle.command_text.specs.declared.requests.Request.{Request}
use Rattle.command_text.specs.declared.requests.Request.TheVariants as asks
use Rattle.exchange_core.specs.ExchangeState.{ExchangeState}
use Rattle.exchange_core.specs.Step.{batch_in, step}
use Rattle.proposal_lines.specs.KeptByMarket.{KeptProposals}
use Rattle.proposal_lines.specs.ProposingState.{state_of}
use Rattle.proposal_text.specs.declared.replies.ServedReply.{ServedReply}
use Rattle.proposal_text.specs.declared.replies.ServedReply.TheVariants.{Told}
use Rattle.proposal_lines.proofs.LaterClears.{IsNoWorse, IsNoWorseFor, left_both, said_both, unchanged}
use Rattle.proposal_text.specs.declared.replies.ProposalReply.TheVariants as told
use Rattle.serve_lines.specs.Output.{handed_on, serving_reply, withdrawal_reply}
use Rattle.serve_lines.specs.Phased.{close_reply, exchange_of, reopen_reply}
use Rattle.serve_lines.specs.ServingState.{ServingState, serving_of}
use Rattle.serve_lines.proofs.LineKinds.{by_kind}

-- the same closed markets, and what is kept of proposals is no worse
pub record IsServedNoWorse (market : ℕ) (one other : ServingState) : Type 0 where
  pub closed : other.closed ≡ one.closed
  pub no_worse : IsNoWorse market one.proposing other.proposing

module _ (market : ℕ) (state : ServingState) (kept : KeptProposals) (no_worse : IsNoWorseFor market (exchange_of state) state.proposing.kept kept) (line : List ℕ) where
  abbrev exchange : ExchangeState
  exchange = exchange_of state

  -- the state with this kept
  abbrev other : ServingState
  other = serving_of (state_of exchange kept) state.closed

  abbrev Stays : ServingState → Type 0
  Stays after = batch_in (exchange_of after) market ≡ batch_in exchange market

  abbrev Alike : (ServingState → ServedReply × ServingState) → Type 0
  Alike answer = Stays (answer state).1 → IsServedNoWorse market (answer state).1 (answer other).1

  abbrev Clears : Result Request Fault → Type 0
  Clears said = (budget : ℕ) → said ≡ Ok (asks.Command (Clear market budget)) → ⊥

  pub left : (closed : List ℕ) → IsServedNoWorse market (serving_of state.proposing closed) (serving_of (state_of exchange kept) closed)
  left closed = record { closed = refl; no_worse = unchanged market exchange state.proposing.kept kept no_worse }

  handed_alike : (said : Result Request Fault) → Clears said → (ended : Option ℕ) → Alike (λ s. handed_on s line said ended)
  handed_alike said none ended stay = record { closed = refl; no_worse = said_both market exchange state.proposing.kept kept no_worse line said none stay }

  command_alike : (command : Command) → Clears (Ok (asks.Command command)) → (barred : Bool)
      → Alike (λ s. if barred then (Told told.MarketIsClosed, s) else handed_on s line (Ok (asks.Command command)) (ended_in exchange command))
  command_alike command none true stay = left state.closed
  command_alike command none false stay = handed_alike (Ok (asks.Command command)) none (ended_in exchange command) stay

  pub said_alike : (said : Result Request Fault) → Clears said → Alike (λ s. serving_reply s line said)
  said_alike =
      by_kind (λ said. Clears said → Alike (λ s. serving_reply s line said)) (λ listed none stay. left (close_reply state listed).1.closed)
      (λ listed none stay. left (reopen_reply state listed).1.closed) (λ command none. command_alike command none (bars state.closed exchange command))
      (λ said kind none.
      let same : (λ (s : ServingState). handed_on s line said None) ≡ (λ (s : ServingState). serving_reply s line said) = λ i s. sym (kind.handed s line) i in
      subst Alike same (handed_alike said none None))

  -- a withdrawal leaves the book
  pub withdrawal_alike : (account amount : ℕ) → Alike (λ s. withdrawal_reply s account amount)
  withdrawal_alike account amount stay = record {
    closed = refl;
    no_worse = left_both market exchange state.proposing.kept kept no_worse (step exchange (Withdraw account amount)).1 stay (λ kept. kept) no_worse.others (λ kept. refl);
  }
