-- What a command clears or settles is known before it.
use Rattle.std.proofs.Common.{◌≡◌, ℕ, Option, Some, None, refl, ◌∙◌}
use Rattle.std.specs.Option.{option_map_or}
use Rattle.command_text.specs.declared.command.Command.{Command}
use Rattle.command_text.specs.declared.command.Command.TheVariants.{Open, Deposit, Withdraw, Market, Trade, Bundle, Cancel, Clear, Settle, Balance}
use Rattle.exchange_core.specs.declared.refusal.Refusal.{Refusal}
use Rattle.exchange_core.specs.ExchangeState.{ExchangeState}
use Rattle.exchange_core.specs.Refusals.{refusal_of}
use Rattle.exchange_core.specs.Step.{effect, refusal_effect, step}
use Rattle.auction_phases.specs.Laws.{EndsAreTold}
use Rattle.auction_phases.specs.Phases.{ended_by}

-- a refusal ends nothing
by_refusal : (state : ExchangeState) (command : Command) (end : Option ℕ) → ended_by (effect state command).0 ≡ end → (refused : Option Refusal)
    → ended_by (option_map_or (refusal_effect state) refused (effect state command)).0 ≡ option_map_or (λ first. None) refused end
by_refusal state command end is None = is
by_refusal state command end is (Some first) = refl

-- nor does a command that clears and settles nothing
never : (refused : Option Refusal) (end : Option ℕ) → end ≡ None → option_map_or (λ first. None) refused end ≡ None
never None end is = is
never (Some first) end is = refl

other : (state : ExchangeState) (command : Command) → ended_by (effect state command).0 ≡ None → ended_by (step state command).0 ≡ None
other state command is = by_refusal state command None is (refusal_of state command) ∙ never (refusal_of state command) None refl

pub ends_are_told : EndsAreTold
ends_are_told state (Open account) = other state (Open account) refl
ends_are_told state (Deposit account amount) = other state (Deposit account amount) refl
ends_are_told state (Withdraw account amount) = other state (Withdraw account amount) refl
ends_are_told state (Market market underlyings) = other state (Market market underlyings) refl
ends_are_told state (Trade side account market kind strike price quantity count weights) =
    other state (Trade side account market kind strike price quantity count weights) refl
ends_are_told state (Bundle side account market price quantity bundle) = other state (Bundle side account market price quantity bundle) refl
ends_are_told state (Cancel account order) = other state (Cancel account order) refl
ends_are_told state (Clear market budget) = by_refusal state (Clear market budget) (Some market) refl (refusal_of state (Clear market budget))
ends_are_told state (Settle market count prices) =
    by_refusal state (Settle market count prices) (Some market) refl (refusal_of state (Settle market count prices))
ends_are_told state (Balance account) = other state (Balance account) refl
