-- A clear where proposals are kept.
use Rattle.std.specs.Prelude.{ℕ, ◌+◌, Option, Some, None}
use Rattle.std.specs.Option.{option_map_or}
use Rattle.cert_check.specs.declared.outcome.Outcome.{Outcome}
use Rattle.clearing.specs.Outcome.{outcome_of}
use Rattle.command_text.specs.declared.command.Command.TheVariants.{Clear}
use Rattle.exchange_core.specs.Refusals.{refusal_of}
use Rattle.exchange_core.specs.Step.{batch_in, cleared_as, cleared_with}
use Rattle.order_book.specs.Numbers.{numbers_of}
use Rattle.proposal_text.specs.declared.replies.BoundedOutcome.{BoundedOutcome}
use Rattle.proposal_text.specs.declared.replies.ProposalReply.TheVariants as told
use Rattle.proposal_lines.specs.KeptByMarket.{bounded_in, without_kept}
use Rattle.proposal_lines.specs.ProposingState.{ProposingState, state_of}
use Rattle.proposal_lines.specs.Reads.{refused_by}
use Rattle.proposal_text.specs.declared.replies.ServedReply.{ServedReply}
use Rattle.proposal_text.specs.declared.replies.ServedReply.TheVariants.{Plain, Told}

-- the outcome that a clear of a market has by the reference run
abbrev pub reference_in : ProposingState → ℕ → ℕ → Outcome
reference_in state market budget = outcome_of (batch_in state.exchange market) budget

-- what takes the place of an outcome of the market's batch, where the run stopped and something is
-- kept for just the live orders: that, or the outcome, which is the match then, whichever covers
-- more, with the bound that is kept
abbrev pub better_than : ProposingState → ℕ → Outcome → Option BoundedOutcome
better_than state market outcome = bounded_in market (numbers_of (batch_in state.exchange market).orders) outcome state.kept

abbrev pub better_in : ProposingState → ℕ → ℕ → Option BoundedOutcome
better_in state market budget = better_than state market (reference_in state market budget)

-- it is charged as any outcome is, and what is kept for the market is let go of
abbrev pub bounded_effect : ProposingState → ℕ → BoundedOutcome → ServedReply × ProposingState
bounded_effect state market outcome = (
  Told (told.Bounded (state.exchange.book.finished + 1) market (batch_in state.exchange market) outcome),
  state_of (cleared_with state.exchange market outcome.proposal.fills) (without_kept market state.kept),
)

abbrev pub reference_effect : ProposingState → ℕ → Outcome → ServedReply × ProposingState
reference_effect state market outcome =
    let now = cleared_as state.exchange market outcome in (Plain now.0, state_of now.1 (without_kept market state.kept))

-- an outcome is charged, or what takes its place
abbrev pub charge_effect : ProposingState → ℕ → Outcome → Option BoundedOutcome → ServedReply × ProposingState
charge_effect state market outcome None = reference_effect state market outcome
charge_effect state market outcome (Some better) = bounded_effect state market better

abbrev pub cleared_by : ProposingState → ℕ → ℕ → Option BoundedOutcome → ServedReply × ProposingState
cleared_by state market budget better = charge_effect state market (reference_in state market budget) better

abbrev pub clear_reply : ProposingState → ℕ → ℕ → ServedReply × ProposingState
clear_reply state market budget =
    option_map_or (λ first. (refused_by first, state)) (refusal_of state.exchange (Clear market budget))
    (cleared_by state market budget (better_in state market budget))
