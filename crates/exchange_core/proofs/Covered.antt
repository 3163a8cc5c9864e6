-- What holds of each outcome holds of each batch that a step clears.
use Rattle.std.proofs.Common.{◌≡◌, ℕ, List, ◌∷◌, [], Bool, not, nat_le, Option, None, Some, is_some, refl}
use Rattle.std.specs.Option.{option_map, option_map_or}
use Rattle.cert_check.specs.declared.outcome.Mark.{Mark}
use Rattle.cert_check.specs.declared.outcome.Mark.TheVariants.{Optimal, Wide, Budget}
use Rattle.cert_check.specs.declared.outcome.Outcome.{Outcome}
use Rattle.cert_check.specs.Conditions.{IfOptimal}
use Rattle.cert_check.specs.Laws.{IsCovered, IsMeasured, IsProved}
use Rattle.clearing.specs.Laws as clearing
use Rattle.clearing.specs.Outcome.{IsMarked, outcome_of}
use Rattle.clearing.proofs.Marks.{outcomes_are_marked}
pub use Rattle.clearing.proofs.Yes.{outcomes_are_judged_yes}
use Rattle.clearing.proofs.Outcomes.{outcomes_are_covered, outcomes_are_measured, optimal_is_greatest}
use Rattle.form.specs.declared.orders.Batch.{Batch}
use Rattle.form.specs.Limits.{IsWithinLimits}
use Rattle.limits.specs.declared.TheConstants.{MAX_BATCHES}
use Rattle.order_book.specs.Book.{BookState, batch_of, info_of, market_of}
use Rattle.order_book.specs.Kept.{IsBookKept}
use Rattle.order_book.specs.Markets.{MarketState}
use Rattle.order_book.specs.Refusals.{is_settled, batch_refusals}
use Rattle.lists.specs.Refusals.{first_of}
use Rattle.order_book.proofs.BookKept.{batch_within, market_kept}
use Rattle.command_text.specs.declared.command.Command.{Command}
use Rattle.command_text.specs.declared.command.Command.TheVariants.{Open, Deposit, Withdraw, Market, Trade, Bundle, Cancel, Clear, Settle, Balance as BalanceOf}
use Rattle.exchange_core.specs.declared.refusal.Refusal.{Refusal}
use Rattle.exchange_core.specs.declared.refusal.Refusal.TheVariants.{NoMarket, Settled, TooMany}
use Rattle.reply_print.specs.declared.replies.Reply.{Reply}
use Rattle.exchange_core.specs.Covered.{IfCleared, OfEachCleared, IsProvedGreatest, IsMarkedFor, StepIsCovered, StepIsMarked, StepIsOptimal, budget_of}
use Rattle.exchange_core.specs.ExchangeState.{ExchangeState}
use Rattle.exchange_core.specs.Kept.{IsKept}
use Rattle.exchange_core.specs.Refusals.{by_book, refusal_of}
use Rattle.exchange_core.specs.Step.{batch_in, effect, refusal_effect}

-- the refusals of a clear behind the first
abbrev unsettled : BookState → ℕ → List (Bool × Refusal)
unsettled book market = (is_settled book market, Settled) ∷ (nat_le MAX_BATCHES book.finished, TooMany) ∷ []

-- where a clear is not refused, its market is there
within_limits : (book : BookState) → IsBookKept book → (market : ℕ) (others : List (Bool × Refusal)) (found : Option MarketState) → market_of book market ≡ found
    → first_of ((not (is_some (option_map info_of found)), NoMarket) ∷ others) ≡ None
    → IsWithinLimits (option_map_or batch_of found (record { underlyings = 0; orders = [] }))
within_limits book kept market others None at none = cc
within_limits book kept market others (Some m) at none = batch_within book.accepted m (market_kept book kept market m at)

pub batch_is_within : (state : ExchangeState) → IsKept state → (market : ℕ) → first_of (by_book (batch_refusals state.book market)) ≡ None → IsWithinLimits (batch_in state market)
batch_is_within state kept market none =
    within_limits state.book kept.orders.book market (unsettled state.book market) (market_of state.book market) refl none

module _ (P : Batch → Outcome → Type 0) where
  -- a refusal clears nothing
  unless_refused : (state : ExchangeState) (refusal : Option Refusal) (accepted : Reply × ExchangeState) → (refusal ≡ None → IfCleared P accepted.0)
      → IfCleared P (option_map_or (refusal_effect state) refusal accepted).0
  unless_refused state None accepted h = h refl
  unless_refused state (Some refusal) accepted h = tt

module _ (P : Batch → Outcome → Type 0) (each : clearing.OfEachOutcome P) where
  effect_has : (state : ExchangeState) (command : Command) → IsKept state → refusal_of state command ≡ None → IfCleared P (effect state command).0
  effect_has state (Open account) kept none = tt
  effect_has state (Deposit account amount) kept none = tt
  effect_has state (Withdraw account amount) kept none = tt
  effect_has state (Market market underlyings) kept none = tt
  effect_has state (Trade side account market kind strike price quantity count weights) kept none = tt
  effect_has state (Bundle side account market price quantity bundle) kept none = tt
  effect_has state (Cancel account order) kept none = tt
  effect_has state (Clear market budget) kept none =
      each (batch_in state market) budget (batch_is_within state kept market none)
  effect_has state (Settle market count prices) kept none = tt
  effect_has state (BalanceOf account) kept none = tt

  pub step_has : OfEachCleared P
  step_has state command kept = unless_refused P state (refusal_of state command) (effect state command) (effect_has state command kept)

pub step_is_covered : StepIsCovered
step_is_covered = step_has IsCovered outcomes_are_covered

-- the surplus is the greatest, and the measure proves it
both : (batch : Batch) (outcome : Outcome) (mark : Mark) → IfOptimal mark (λ cover measure. IsProved batch outcome) → IfOptimal mark (λ cover measure. IsMeasured batch outcome measure)
    → IfOptimal mark (λ cover measure. IsProved batch outcome × IsMeasured batch outcome measure)
both batch outcome (Optimal cover measure) proved measured = (proved, measured)
both batch outcome (Wide wide) proved measured = tt
both batch outcome Budget proved measured = tt

pub step_is_optimal : StepIsOptimal
step_is_optimal =
    step_has IsProvedGreatest
    (λ batch units within. both batch (outcome_of batch units) (outcome_of batch units).mark (optimal_is_greatest batch units within) (outcomes_are_measured batch units within))

-- ---- the mark
effect_marked : (state : ExchangeState) (command : Command) → IsKept state → refusal_of state command ≡ None → IsMarkedFor command (effect state command).0
effect_marked state (Open account) kept none = tt
effect_marked state (Deposit account amount) kept none = tt
effect_marked state (Withdraw account amount) kept none = tt
effect_marked state (Market market underlyings) kept none = tt
effect_marked state (Trade side account market kind strike price quantity count weights) kept none = tt
effect_marked state (Bundle side account market price quantity bundle) kept none = tt
effect_marked state (Cancel account order) kept none = tt
effect_marked state (Clear market budget) kept none = outcomes_are_marked (batch_in state market) budget (batch_is_within state kept market none)
effect_marked state (Settle market count prices) kept none = tt
effect_marked state (BalanceOf account) kept none = tt

pub step_is_marked : StepIsMarked
step_is_marked state command kept =
    unless_refused (λ batch outcome. IsMarked batch (budget_of command) outcome) state (refusal_of state command) (effect state command) (effect_marked state command kept)
