-- What is kept of proposals is within the ranges of proposals, and what is told of one is in order.
use Rattle.std.proofs.Common.{◌≡◌, ℕ, List, true, false, if◌then◌else◌, Option, Some, None, Result, Ok, Err}
use Rattle.std.specs.Prelude.{IfSome}
use Rattle.std.specs.List.{All}
use Rattle.std.specs.Option.{option_map_or}
use Rattle.proposal_check.specs.Proposals.{proposal_bound}
use Rattle.proposal_check.specs.declared.covers.Proposal.{Proposal}
use Rattle.proposal_check.proofs.Proposals.{proposals_are_decided}
use Rattle.proposal_check.specs.declared.covers.BoundFailure.{BoundFailure as Reason}
use Rattle.exact_num.specs.Fraction.{Fraction}
use Rattle.exact_num.specs.Tests.{is_at_most}
use Rattle.form.specs.declared.orders.Batch.{Batch}
use Rattle.frac.specs.Range.{limit}
use Rattle.frac.specs.Value.{fraction_of}
use Rattle.frac.specs.ValueOf.{value_from}
use Rattle.frac.specs.declared.frac128.Frac128.{Frac128}
use Rattle.order_book.specs.Numbers.{numbers_of}
use Rattle.proposal_text.specs.declared.replies.FailureKind.TheVariants as failed
use Rattle.proposal_text.specs.Within.{AreInOrder, IsMeasureWithin, IsProposalCoverWithin, IsProposalWithin}
use Rattle.proposals.specs.Best.{after_offer, are_same_orders, best_for, best_of, better_fills, better_measure, joined, surplus_of}
use Rattle.proposals.specs.Laws.{IsProvedBest, as_proposal}
use Rattle.proposals.specs.declared.best.Best.{Best}
use Rattle.proposals.specs.declared.best.BoundedMeasure.{BoundedMeasure}
use Rattle.proposals.specs.declared.best.CoveredFills.{CoveredFills}
use Rattle.proposal_lines.specs.KeptByMarket.{KeptProposals, best_in, kept_in}
use Rattle.proposal_lines.specs.Proposed.{after_proposed, judged_effect, kept_by, offered, stale_effect, unproved_effect}
use Rattle.proposal_lines.specs.declared.proposed.Proposed.{Proposed}
use Rattle.proposal_lines.proofs.Kept.{Has, found_has, with_has}
use Rattle.proposal_lines.proofs.Lowering.{no_less_than_new}
use Rattle.proposal_lines.proofs.UsingBest.{no_more_than_new}

abbrev pub IsBestWithin : ℕ → Best → Type 0
IsBestWithin market best = IsProposalWithin (as_proposal best)

abbrev pub AreKeptWithin : KeptProposals → Type 0
AreKeptWithin kept = All (Has IsBestWithin) kept

-- ---- after an offer
cover_within : (one other : CoveredFills) → IsProposalCoverWithin one.cover → IsProposalCoverWithin other.cover → IsProposalCoverWithin (better_fills one other).cover
cover_within one other h k = elim (is_at_most (surplus_of other) (surplus_of one)) as (λ b. IsProposalCoverWithin (if b then one else other).cover) [ true ↦ h | false ↦ k ]

measure_within : (one other : BoundedMeasure) → IsMeasureWithin one.measure → IsMeasureWithin other.measure → IsMeasureWithin (better_measure one other).measure
measure_within one other h k =
    elim (is_at_most (fraction_of one.bound) (fraction_of other.bound)) as (λ b. IsMeasureWithin (if b then one else other).measure) [ true ↦ h | false ↦ k ]

offered_within : (kept : Option Best) (orders : List ℕ) (proposal : Proposal) (bound : Frac128) → IfSome kept (λ best. IsProposalWithin (as_proposal best)) → IsProposalWithin proposal
    → IsProposalWithin (as_proposal (after_offer kept orders proposal bound))
offered_within None orders proposal bound h within = within
offered_within (Some best) orders proposal bound h within =
    let new = best_of orders proposal bound in
    elim (are_same_orders best.orders orders) as (λ b. IsProposalWithin (as_proposal (if b then joined best new else new))) [
      | true ↦ (cover_within best.covered new.covered h.0 within.0, measure_within best.bounded new.bounded h.1 within.1)
      | false ↦ within
    ]

module _ (kept : KeptProposals) (are : AreKeptWithin kept) (proposed : Proposed) (within : IsProposalWithin proposed.submission.proposal) where
  value_within : (bound : Option Frac128) → AreKeptWithin (option_map_or (kept_by kept proposed) bound (unproved_effect kept failed.Wide)).1
  value_within None = are
  value_within (Some bound) =
      let market = proposed.market in
      with_has IsBestWithin market (after_proposed kept proposed bound)
      (offered_within (kept_in market kept) proposed.submission.orders proposed.submission.proposal bound (found_has IsBestWithin market kept are) within) kept are

  judged_within : (bound : Result Fraction Reason) → AreKeptWithin (judged_effect kept proposed bound).1
  judged_within (Err reason) = are
  judged_within (Ok B) = value_within (value_from B)

  pub offer_within : (batch : Batch) → AreKeptWithin (offered kept proposed batch).1
  offer_within batch =
      elim (are_same_orders proposed.submission.orders (numbers_of batch.orders)) as (λ b. AreKeptWithin (if b then judged_effect kept proposed (proposal_bound limit batch proposed.submission.proposal) else stale_effect kept).1) [
        | true ↦ judged_within (proposal_bound limit batch proposed.submission.proposal)
        | false ↦ are
      ]

-- ---- what counts
counted_within : (orders : List ℕ) (kept : Option Best) → IfSome kept (λ best. IsProposalWithin (as_proposal best)) → IfSome (best_for kept orders) (λ best. IsProposalWithin (as_proposal best))
counted_within orders None h = tt
counted_within orders (Some best) h = elim (are_same_orders best.orders orders) as (λ b. IfSome (if b then Some best else None) (λ best. IsProposalWithin (as_proposal best))) [ true ↦ h | false ↦ tt ]

pub best_within : (market : ℕ) (orders : List ℕ) (kept : KeptProposals) → AreKeptWithin kept → IfSome (best_in market orders kept) (λ best. IsProposalWithin (as_proposal best))
best_within market orders kept are = counted_within orders (kept_in market kept) (found_has IsBestWithin market kept are)

-- ---- what is told of a bound: 0, its surplus, and by weak duality the greatest surplus and the least
-- bound that are kept, and the bound do not fall
pub told_in_order : (batch : Batch) (kept : Option Best) (orders : List ℕ) (proposal : Proposal) (bound : Frac128) → proposal_bound limit batch proposal ≡ Ok (fraction_of bound)
    → (for_batch : Batch) → IsProvedBest for_batch (after_offer kept orders proposal bound)
    → (let best = after_offer kept orders proposal bound in AreInOrder proposal.claim.surplus best.covered.claim.surplus best.bounded.bound bound)
told_in_order batch kept orders proposal bound proves for_batch proved =
    let best = after_offer kept orders proposal bound in
    record {
      not_below_zero = ((proposals_are_decided batch proposal).proved (fraction_of bound) proves).covered.not_below_zero;
      best = no_less_than_new orders proposal bound kept;
      bounded = ((proposals_are_decided for_batch (as_proposal best)).proved (fraction_of best.bounded.bound) proved).bounds.at_most;
      least = no_more_than_new orders proposal bound kept;
    }
