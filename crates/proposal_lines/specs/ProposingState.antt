-- What a contract sees of an exchange that takes proposals.
use Rattle.std.specs.Prelude.{[]}
use Rattle.exchange_core.specs.ExchangeState.{ExchangeState, empty_exchange}
use Rattle.proposal_lines.specs.KeptByMarket.{KeptProposals}

pub record ProposingState : Type 0 where
  pub exchange : ExchangeState
  -- what is kept for its markets
  pub kept : KeptProposals

abbrev pub state_of : ExchangeState → KeptProposals → ProposingState
state_of exchange kept = record { exchange = exchange; kept = kept }

abbrev pub empty_state : ProposingState
empty_state = state_of empty_exchange []
