-- The refusals of each call, each with its condition, in the order in which they are tried.
use Rattle.std.specs.Prelude.{ℕ, Bool, not, List, [], ◌∷◌, ◌++◌, Option, Some, None}
use Rattle.order_book.specs.Refusals.{is_market, is_settled}
use Rattle.exchange_core.specs.declared.refusal.Refusal.TheVariants.{NoMarket, Settled}
use Rattle.exchange_core.specs.ExchangeState.{ExchangeState}
use Rattle.exchange_core.specs.Refusal as exchange
use Rattle.auction_phases.specs.Phases.{is_closed}
use Rattle.auction_phases.specs.declared.refusal.PhaseFailure.{PhaseFailure}
use Rattle.auction_phases.specs.declared.refusal.PhaseFailure.TheVariants.{Refused, Memory}
use Rattle.auction_phases.specs.declared.refusal.PhaseRefusal.{PhaseRefusal}
use Rattle.auction_phases.specs.declared.refusal.PhaseRefusal.TheVariants.{Exchange, Closed, Open}

-- the refusal; want of memory is none
abbrev pub unless_memory : PhaseFailure → Option PhaseRefusal
unless_memory Memory = None
unless_memory (Refused refusal) = Some refusal

-- the numbers in reply lines
abbrev pub number_of : PhaseRefusal → ℕ
number_of (Exchange refusal) = exchange.number_of refusal
number_of Closed = 23
number_of Open = 24

-- of a market that is to be there and not settled
abbrev pub trading_refusals : ExchangeState → ℕ → List (Bool × PhaseRefusal)
trading_refusals state market =
    (not (is_market state.book market), Exchange NoMarket)
    ∷ (is_settled state.book market, Exchange Settled)
    ∷ []

abbrev pub close_refusals : ExchangeState → List ℕ → ℕ → List (Bool × PhaseRefusal)
close_refusals state closed market = trading_refusals state market ++ (is_closed closed market, Closed) ∷ []

abbrev pub reopen_refusals : ExchangeState → List ℕ → ℕ → List (Bool × PhaseRefusal)
reopen_refusals state closed market = trading_refusals state market ++ (not (is_closed closed market), Open) ∷ []
