-- What proposals do to a clear, and what they do not.
use Rattle.std.specs.Prelude.{ℕ, ◌≡◌, Option, Some, None, IfSome, Result, ⊤}
use Rattle.proposal_check.specs.ProposalLaws.{Proves}
use Rattle.cert_check.specs.declared.outcome.Outcome.{Outcome}
use Rattle.clearing.specs.Outcome.{fallback}
use Rattle.command_text.specs.declared.asked.Fault.{Fault}
use Rattle.command_text.specs.declared.command.Command.TheVariants.{Clear}
use Rattle.exact_num.specs.Fraction.{AtMost, Fraction}
use Rattle.exchange_core.specs.Kept.{IsKept}
use Rattle.exchange_core.specs.Refusals.{refusal_of}
use Rattle.exchange_core.specs.Step.{batch_in}
use Rattle.form.specs.declared.orders.Batch.{Batch}
use Rattle.frac.specs.Value.{fraction_of}
use Rattle.order_book.specs.Numbers.{numbers_of}
use Rattle.proposal_text.specs.declared.replies.BoundedOutcome.{BoundedOutcome}
use Rattle.proposal_text.specs.declared.replies.ProposalReply.TheVariants as told
use Rattle.proposals.specs.declared.best.Best.{Best}
use Rattle.proposal_lines.specs.Clears.{better_in, reference_in}
use Rattle.proposal_lines.specs.KeptByMarket.{best_in, stop_of}
use Rattle.proposal_lines.specs.Proposed.{proposed_reply}
use Rattle.proposal_lines.specs.ProposingState.{ProposingState}
use Rattle.proposal_lines.specs.Proved.{AreProvedIn}
use Rattle.proposal_lines.specs.declared.proposed.Proposed.{Proposed}
use Rattle.proposal_text.specs.declared.replies.ServedReply.{ServedReply}
use Rattle.proposal_text.specs.declared.replies.ServedReply.TheVariants.{Plain, Told}

-- a state that an exchange which takes proposals may be in
pub record IsSound (state : ProposingState) : Type 0 where
  pub kept : IsKept state.exchange
  pub proved : AreProvedIn state.exchange.book state.kept

-- an outcome is the match of each bundle by itself
abbrev pub IsMatch : Batch → Outcome → Type 0
IsMatch batch outcome = outcome ≡ fallback batch.orders outcome.mark outcome.units

-- the proposal proves its bound for the batch, whose reference run stopped, and its surplus is not
-- below that of the match
pub record IsBetter (batch : Batch) (reference : Outcome) (better : BoundedOutcome) : Type 0 where
  pub proves : Proves batch better.proposal (fraction_of better.bound)
  pub stopped : stop_of reference.mark ≡ Some better.run
  pub units : better.units ≡ reference.units
  pub matched : IsMatch batch reference
  pub no_less : AtMost (fraction_of reference.claim.surplus) (fraction_of better.proposal.claim.surplus)

-- what is kept for the live orders of a market: it counts
abbrev pub counted_in : ProposingState → ℕ → Option Best
counted_in state market = best_in market (numbers_of (batch_in state.exchange market).orders) state.kept

-- where the reference run stopped, its outcome is the match, and nothing is kept that counts
abbrev pub NoneCounts : ProposingState → ℕ → Outcome → Type 0
NoneCounts state market reference =
    IfSome (stop_of reference.mark) (λ run. IsMatch (batch_in state.exchange market) reference × (counted_in state market ≡ None))

abbrev pub IsClearedAs : ProposingState → ℕ → Outcome → Option BoundedOutcome → Type 0
IsClearedAs state market reference None = NoneCounts state market reference
IsClearedAs state market reference (Some better) = IsBetter (batch_in state.exchange market) reference better

-- so is each clear that is not refused
abbrev pub ClearsAreProved : Type 0
ClearsAreProved =
    (state : ProposingState) (market budget : ℕ) → IsSound state → refusal_of state.exchange (Clear market budget) ≡ None
    → IsClearedAs state market (reference_in state market budget) (better_in state market budget)

-- ---- no proposal harms
-- the surplus that a clear of the market tells
abbrev pub charged_surplus : Outcome → Option BoundedOutcome → Fraction
charged_surplus reference None = fraction_of reference.claim.surplus
charged_surplus reference (Some better) = fraction_of better.proposal.claim.surplus

abbrev pub cleared_surplus : ProposingState → ℕ → ℕ → Fraction
cleared_surplus state market budget = charged_surplus (reference_in state market budget) (better_in state market budget)

-- a reply to a proposal that is not taken in
abbrev pub IsRefused : ServedReply → Type 0
IsRefused (Plain reply) = ⊤
IsRefused (Told told.Stale) = ⊤
IsRefused (Told (told.Unproved failed)) = ⊤
IsRefused (Told (told.Proposed market surplus bound best_surplus least_bound)) = ⊥
IsRefused (Told (told.Book market batch)) = ⊥
IsRefused (Told (told.Positions account market positions)) = ⊥
IsRefused (Told (told.Bounded number market batch outcome)) = ⊥
IsRefused (Told (told.Closed market orders)) = ⊥
IsRefused (Told (told.Reopened market)) = ⊥
IsRefused (Told told.MarketIsClosed) = ⊤
IsRefused (Told told.MarketIsOpen) = ⊤
IsRefused (Told (told.Secured account need)) = ⊥
IsRefused (Told (told.Needs needed)) = ⊥
IsRefused (Told (told.Uncovered need)) = ⊤
IsRefused (Told (told.Quoted market bid ask)) = ⊥
IsRefused (Told (told.Priced market quantity ask bid)) = ⊥
IsRefused (Told (told.Margin account market margin)) = ⊥
IsRefused (Told (told.Tried market trial)) = ⊥
IsRefused (Told (told.Barred bar)) = ⊤

-- by such a proposal nothing changes
abbrev pub RefusedChangeNothing : Type 0
RefusedChangeNothing =
    (state : ProposingState) (said : Result Proposed Fault) → IsRefused (proposed_reply state said).0 → (proposed_reply state said).1 ≡ state

-- with or without them, it is at least that of the reference run
abbrev pub ClearsAreAtLeast : Type 0
ClearsAreAtLeast =
    (state : ProposingState) (market budget : ℕ)
    → AtMost (fraction_of (reference_in state market budget).claim.surplus) (cleared_surplus state market budget)
