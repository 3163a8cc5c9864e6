-- The closed markets, and what they keep from the exchange.
use Rattle.std.specs.Prelude.{ℕ, Bool, false, not, ◌&&◌, List, [], ◌∷◌, ◌++◌, filter, nat_eq, is_none, Option, Some, None}
use Rattle.std.specs.List.{list_any}
use Rattle.std.specs.Option.{option_map_or}
use Rattle.command_text.specs.declared.command.Command.{Command}
use Rattle.command_text.specs.declared.command.Command.TheVariants.{Open, Deposit, Withdraw, Market, Trade, Bundle, Cancel, Clear, Settle, Balance}
use Rattle.order_book.specs.Markets.{holder_of}
use Rattle.reply_print.specs.declared.replies.Reply.{Reply}
use Rattle.reply_print.specs.declared.replies.Reply.TheVariants as reply
use Rattle.exchange_core.specs.declared.refusal.Refusal.{Refusal}
use Rattle.exchange_core.specs.ExchangeState.{ExchangeState}
use Rattle.exchange_core.specs.Refusals.{refusal_of}

abbrev pub is_closed : List ℕ → ℕ → Bool
is_closed closed market = list_any (λ other. nat_eq other market) closed

-- a market more is closed
abbrev pub with_closed : List ℕ → ℕ → List ℕ
with_closed closed market = closed ++ market ∷ []

-- a market is closed no longer
abbrev pub with_open : List ℕ → ℕ → List ℕ
with_open closed market = filter (λ other. not (nat_eq other market)) closed

-- the market in which a command places an order, or cancels one that is live
abbrev pub touched_by : ExchangeState → Command → Option ℕ
touched_by state (Open account) = None
touched_by state (Deposit account amount) = None
touched_by state (Withdraw account amount) = None
touched_by state (Market market underlyings) = None
touched_by state (Trade side account market kind strike price quantity count weights) = Some market
touched_by state (Bundle side account market price quantity bundle) = Some market
touched_by state (Cancel account order) = holder_of order state.book.markets
touched_by state (Clear market budget) = None
touched_by state (Settle market count prices) = None
touched_by state (Balance account) = None

-- a command is kept from the exchange where it touches a closed market and nothing else refuses it
abbrev pub bars : List ℕ → ExchangeState → Command → Bool
bars closed state command =
    option_map_or (is_closed closed) (touched_by state command) false && is_none (refusal_of state command)

-- the market that a reply tells as cleared, whatever the mark, or as settled
abbrev pub ended_by : Reply → Option ℕ
ended_by (reply.Opened account) = None
ended_by (reply.Deposited account balance) = None
ended_by (reply.Withdrawn account balance) = None
ended_by (reply.Listed market underlyings) = None
ended_by (reply.Placed order) = None
ended_by (reply.Cancelled order) = None
ended_by (reply.Cleared number market batch outcome) = Some market
ended_by (reply.Settled market lapsed payouts) = Some market
ended_by (reply.Balance account balance reserved) = None
ended_by (reply.Refused number field) = None

-- where a market is cleared or settled, it is open again
abbrev pub after_end : List ℕ → Option ℕ → List ℕ
after_end closed ended = option_map_or (with_open closed) ended closed

abbrev pub after_reply : List ℕ → Reply → List ℕ
after_reply closed reply = after_end closed (ended_by reply)

-- ---- the same, before the reply
abbrev pub unless_refused : Option Refusal → ℕ → Option ℕ
unless_refused refused market = option_map_or (λ first. None) refused (Some market)

-- the market that a command clears or settles, where nothing refuses it
abbrev pub ended_in : ExchangeState → Command → Option ℕ
ended_in state (Open account) = None
ended_in state (Deposit account amount) = None
ended_in state (Withdraw account amount) = None
ended_in state (Market market underlyings) = None
ended_in state (Trade side account market kind strike price quantity count weights) = None
ended_in state (Bundle side account market price quantity bundle) = None
ended_in state (Cancel account order) = None
ended_in state (Clear market budget) = unless_refused (refusal_of state (Clear market budget)) market
ended_in state (Settle market count prices) = unless_refused (refusal_of state (Settle market count prices)) market
ended_in state (Balance account) = None
