-- What a contract sees of an exchange that answers all lines of `serve`, over accounts that may be
-- secured.
use Rattle.std.specs.Prelude.{ℕ, List, []}
use Rattle.exchange_core.specs.ExchangeState.{ExchangeState}
use Rattle.proposal_lines.specs.ProposingState.{ProposingState}
use Rattle.secured_accounts.specs.Secured.{with_secured}
use Rattle.serve_lines.specs.Phased.{exchange_of}
use Rattle.serve_lines.specs.ServingState.{ServingState, empty_serving, serving_of}

pub record SecuredState : Type 0 where
  -- the exchange, what is kept of proposals, and the closed markets
  pub serving : ServingState
  -- the secured accounts
  pub secured : List ℕ

abbrev pub secured_of : ServingState → List ℕ → SecuredState
secured_of serving secured = record { serving = serving; secured = secured }

abbrev pub empty_secured : SecuredState
empty_secured = secured_of empty_serving []

abbrev pub exchange_in : SecuredState → ExchangeState
exchange_in state = exchange_of state.serving

-- an account that was just opened is secured
abbrev pub with_opened : SecuredState → ℕ → SecuredState
with_opened state account = secured_of state.serving (with_secured state.secured account)

-- with this in place of the exchange that takes proposals
abbrev pub with_proposing : SecuredState → ProposingState → SecuredState
with_proposing state now = secured_of (serving_of now state.serving.closed) state.secured
