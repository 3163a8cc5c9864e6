-- The exchange after markets are settled, one after another.
use Rattle.std.specs.Prelude.{ℕ, List, [], ◌∷◌}
use Rattle.exchange_core.specs.ExchangeState.{ExchangeState}
use Rattle.exchange_core.specs.Step.{settle_effect}

-- each at its prices
abbrev pub after_settling : (ℕ → List ℕ) → List ℕ → ExchangeState → ExchangeState
after_settling prices [] state = state
after_settling prices (market ∷ markets) state = after_settling prices markets (settle_effect state market (prices market)).1
