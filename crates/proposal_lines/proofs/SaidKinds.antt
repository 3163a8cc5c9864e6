-- The kinds of what a line says: a proposal, a clear, a settlement, a read, a trial, and all else,
-- which is answered as where nothing is read or proposed.
use Rattle.std.proofs.Common.{◌≡◌, ℕ, List, None, Result, Ok, Err, inl, inr, refl, sym}
use Rattle.std.specs.Prelude.{◌⊎◌}
use Rattle.std.proofs.lemmas.Option.{none-some}
use Rattle.auction_phases.specs.Phases.{ended_by, ended_in}
use Rattle.command_text.specs.declared.asked.Fault.{Fault}
use Rattle.command_text.specs.declared.command.Command.{Command}
use Rattle.command_text.specs.declared.command.Command.TheVariants.{Open, Deposit, Withdraw, Market, Trade, Bundle, Cancel, Clear, Settle, Balance}
use Rattle.command_text.specs.declared.requests.ProposeRequest.{ProposeRequest}
use Rattle.command_text.specs.declared.requests.Request.{Request}
use Rattle.command_text.specs.declared.requests.Request.TheVariants as asks
use Rattle.command_text.specs.declared.requests.TryRequest.{TryRequest}
use Rattle.exchange_core.specs.ExchangeState.{ExchangeState}
use Rattle.exchange_lines.specs.GainRuns.{IfClears}
use Rattle.reply_print.specs.declared.replies.Reply.{Reply}
use Rattle.reply_print.specs.declared.replies.Reply.TheVariants as reply
use Rattle.reply_print.specs.declared.replies.Reply.TheVariants.{Opened, Deposited, Withdrawn, Listed, Placed, Cancelled, Cleared, Settled, Refused}
use Rattle.proposal_lines.specs.AllKinds.{said_reply}
use Rattle.proposal_lines.specs.Laws.{NoneCounts}
use Rattle.proposal_lines.specs.Output.{other_reply, proposing_reply}
use Rattle.proposal_lines.specs.Reading.{reading_reply}
use Rattle.proposal_lines.specs.ProposingState.{ProposingState}

-- where a batch is cleared whose run stopped, nothing is kept that counts
abbrev pub IsUncounted : ProposingState → Reply → Type 0
IsUncounted state = IfClears (λ number market batch outcome. NoneCounts state market outcome)

-- so it is of a reply that clears and settles nothing
pub uncounted : (state : ProposingState) (reply : Reply) → ended_by reply ≡ None → IsUncounted state reply
uncounted state (Opened account) none = tt
uncounted state (Deposited account balance) none = tt
uncounted state (Withdrawn account balance) none = tt
uncounted state (Listed market underlyings) none = tt
uncounted state (Placed order) none = tt
uncounted state (Cancelled order) none = tt
uncounted state (Cleared number market batch outcome) none = absurd (none-some market (sym none))
uncounted state (Settled market lapsed payouts) none = tt
uncounted state (reply.Balance account balance reserved) none = tt
uncounted state (Refused number field) none = tt

-- a command that clears and settles nothing, whatever the state
abbrev EndsNothing : Command → Type 0
EndsNothing c = (state : ExchangeState) → ended_in state c ≡ None

pub record IsOther (said : Result Request Fault) : Type 0 where
  pub served : (state : ProposingState) (line : List ℕ) → proposing_reply state line said ≡ other_reply state said
  pub reading : (exchange : ExchangeState) → reading_reply exchange said ≡ said_reply exchange said
  pub says : ((c : Command) × (said ≡ Ok (asks.Command c)) × EndsNothing c) ⊎ ((c : Command) → said ≡ Ok (asks.Command c) → ⊥)

module _ (P : Result Request Fault → Type 0)
    (propose : (request : ProposeRequest) → P (Ok (asks.Propose request)))
    (clear : (market budget : ℕ) → P (Ok (asks.Command (Clear market budget))))
    (settle : (market count : ℕ) (prices : List ℕ) → P (Ok (asks.Command (Settle market count prices))))
    (book : (market : ℕ) → P (Ok (asks.Book market)))
    (positions : (account market : ℕ) → P (Ok (asks.Positions account market)))
    (trial : (request : TryRequest) → P (Ok (asks.Try request)))
    (other : (said : Result Request Fault) → IsOther said → P said) where
  command : (c : Command) → ((state : ProposingState) (line : List ℕ) → proposing_reply state line (Ok (asks.Command c)) ≡ other_reply state (Ok (asks.Command c)))
      → EndsNothing c → P (Ok (asks.Command c))
  command c served none = other (Ok (asks.Command c)) (record { served = served; reading = λ exchange. refl; says = inl (c, refl, none) })

  pub by_kind : (said : Result Request Fault) → P said
  by_kind (Ok (asks.Propose request)) = propose request
  by_kind (Ok (asks.Book market)) = book market
  by_kind (Ok (asks.Positions account market)) = positions account market
  by_kind (Ok (asks.Try request)) = trial request
  by_kind (Ok (asks.Command (Clear market budget))) = clear market budget
  by_kind (Ok (asks.Command (Settle market count prices))) = settle market count prices
  by_kind (Ok (asks.Command (Open account))) = command (Open account) (λ state line. refl) (λ state. refl)
  by_kind (Ok (asks.Command (Deposit account amount))) = command (Deposit account amount) (λ state line. refl) (λ state. refl)
  by_kind (Ok (asks.Command (Withdraw account amount))) = command (Withdraw account amount) (λ state line. refl) (λ state. refl)
  by_kind (Ok (asks.Command (Market market underlyings))) = command (Market market underlyings) (λ state line. refl) (λ state. refl)
  by_kind (Ok (asks.Command (Trade side account market kind strike price quantity count weights))) =
      command (Trade side account market kind strike price quantity count weights) (λ state line. refl) (λ state. refl)
  by_kind (Ok (asks.Command (Bundle side account market price quantity bundle))) =
      command (Bundle side account market price quantity bundle) (λ state line. refl) (λ state. refl)
  by_kind (Ok (asks.Command (Cancel account order))) = command (Cancel account order) (λ state line. refl) (λ state. refl)
  by_kind (Ok (asks.Command (Balance account))) = command (Balance account) (λ state line. refl) (λ state. refl)
  by_kind (Ok (asks.Quote request)) =
      other (Ok (asks.Quote request)) (record { served = λ state line. refl; reading = λ exchange. refl; says = inr (λ c e. cc) })
  by_kind (Ok (asks.Price request)) =
      other (Ok (asks.Price request)) (record { served = λ state line. refl; reading = λ exchange. refl; says = inr (λ c e. cc) })
  by_kind (Ok (asks.Margin request)) =
      other (Ok (asks.Margin request)) (record { served = λ state line. refl; reading = λ exchange. refl; says = inr (λ c e. cc) })
  by_kind (Ok (asks.Secure account)) =
      other (Ok (asks.Secure account)) (record { served = λ state line. refl; reading = λ exchange. refl; says = inr (λ c e. cc) })
  by_kind (Ok (asks.Need account)) =
      other (Ok (asks.Need account)) (record { served = λ state line. refl; reading = λ exchange. refl; says = inr (λ c e. cc) })
  by_kind (Ok (asks.Close market)) =
      other (Ok (asks.Close market)) (record { served = λ state line. refl; reading = λ exchange. refl; says = inr (λ c e. cc) })
  by_kind (Ok (asks.Reopen market)) =
      other (Ok (asks.Reopen market)) (record { served = λ state line. refl; reading = λ exchange. refl; says = inr (λ c e. cc) })
  by_kind (Err fault) = other (Err fault) (record { served = λ state line. refl; reading = λ exchange. refl; says = inr (λ c e. cc) })
