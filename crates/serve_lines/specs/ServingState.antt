-- What a contract sees of an exchange whose markets have phases.
use Rattle.std.specs.Prelude.{ℕ, List, []}
use Rattle.proposal_lines.specs.ProposingState.{ProposingState, empty_state}

pub record ServingState : Type 0 where
  -- the exchange, and what is kept of proposals
  pub proposing : ProposingState
  -- the closed markets
  pub closed : List ℕ

abbrev pub serving_of : ProposingState → List ℕ → ServingState
serving_of proposing closed = record { proposing = proposing; closed = closed }

abbrev pub empty_serving : ServingState
empty_serving = serving_of empty_state []
