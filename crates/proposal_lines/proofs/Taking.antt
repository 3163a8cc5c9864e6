-- A proposal is taken, judged a bound for the live orders of its market, or nothing changes.
use Rattle.std.proofs.Common.{◌≡◌, ◌&&◌, ◌⊎◌, ℕ, List, Bool, true, false, if◌then◌else◌, Some, None, Result, Ok, Err, inl, inr, refl, sym, ap, ◌∙◌, subst}
use Rattle.std.specs.Prelude.{IfSome}
use Rattle.std.specs.Option.{option_map_or}
use Rattle.proposal_check.specs.Proposals.{proposal_bound}
use Rattle.proposal_check.specs.declared.covers.BoundFailure.{BoundFailure as Reason}
use Rattle.clearing.proofs.Values.{fraction_is}
use Rattle.exact_num.specs.Fraction.{Fraction}
use Rattle.exact_num.specs.Tests.{is_lowest}
use Rattle.exchange_core.specs.Refusals.{by_book}
use Rattle.exchange_core.specs.Step.{batch_in}
use Rattle.exchange_core.proofs.FirstRefusal.{live_none}
use Rattle.form.specs.declared.orders.Batch.{Batch}
use Rattle.frac.specs.Range.{limit}
use Rattle.frac.specs.Value.{fraction_of}
use Rattle.frac.specs.ValueOf.{has_128_bits, value_of}
use Rattle.frac.specs.declared.frac128.Frac128.{Frac128}
use Rattle.lists.specs.Refusals.{first_of}
use Rattle.order_book.specs.Numbers.{numbers_of}
use Rattle.order_book.specs.Refusals.{live_refusals}
use Rattle.order_book.proofs.Accepting.{listing_live}
use Rattle.proposal_text.specs.declared.replies.FailureKind.TheVariants as failed
use Rattle.proposal_text.specs.declared.replies.ProposalReply.{ProposalReply}
use Rattle.proposals.specs.Best.{are_same_orders, best_for}
use Rattle.proposals.specs.Laws.{IsProvedBest}
use Rattle.proposals.proofs.Offers.{offers_stay_proved}
use Rattle.proposal_lines.specs.KeptByMarket.{KeptProposals, best_in, kept_in}
use Rattle.proposal_lines.specs.Laws.{IsSound}
use Rattle.proposal_lines.specs.Answers.{TakesNothing}
use Rattle.proposal_lines.specs.Proposed.{after_proposed, judged_effect, kept_by, offered, stale_effect, unproved_effect}
use Rattle.proposal_lines.specs.ProposingState.{ProposingState}
use Rattle.proposal_lines.specs.declared.proposed.Proposed.{Proposed}
use Rattle.proposal_lines.proofs.Clearing.{batch_is}
use Rattle.proposal_lines.proofs.Kept.{best_proved, same_numbers}

module _ (kept : KeptProposals) (proposed : Proposed) (batch : Batch) where
  -- it is for just these orders, and judged a bound for them
  pub record IsTaken (now : ProposalReply × KeptProposals) : Type 0 where
    pub bound : Frac128
    pub orders : proposed.submission.orders ≡ numbers_of batch.orders
    pub judged : proposal_bound limit batch proposed.submission.proposal ≡ Ok (fraction_of bound)
    pub is : now ≡ kept_by kept proposed bound

  abbrev pub Becomes : ProposalReply × KeptProposals → Type 0
  Becomes now = (TakesNothing now.0 × (now.1 ≡ kept)) ⊎ IsTaken now

  module _ (orders : proposed.submission.orders ≡ numbers_of batch.orders) where
    value_becomes : (B : Fraction) (b : Bool) → (is_lowest B && has_128_bits B) ≡ b → proposal_bound limit batch proposed.submission.proposal ≡ Ok B
        → Becomes (option_map_or (kept_by kept proposed) (if b then Some (value_of B) else None) (unproved_effect kept failed.Wide))
    value_becomes B true is judged = inr (record { bound = value_of B; orders = orders; judged = judged ∙ ap Ok (sym (fraction_is B is)); is = refl })
    value_becomes B false is judged = inl (tt, refl)

    judged_becomes : (bound : Result Fraction Reason) → proposal_bound limit batch proposed.submission.proposal ≡ bound → Becomes (judged_effect kept proposed bound)
    judged_becomes (Err reason) is = inl (tt, refl)
    judged_becomes (Ok B) is = value_becomes B (is_lowest B && has_128_bits B) refl is

  pub offer_becomes : Becomes (offered kept proposed batch)
  offer_becomes = by (are_same_orders proposed.submission.orders (numbers_of batch.orders)) refl
    where
      bound : Result Fraction Reason
      bound = proposal_bound limit batch proposed.submission.proposal

      by : (t : Bool) → are_same_orders proposed.submission.orders (numbers_of batch.orders) ≡ t → Becomes (if t then judged_effect kept proposed bound else stale_effect kept)
      by true same = judged_becomes (same_numbers proposed.submission.orders (numbers_of batch.orders) same) bound refl
      by false same = inl (tt, refl)

-- what is kept after it proves its bound for the same batch
pub taken_is_proved : (state : ProposingState) → IsSound state → (proposed : Proposed) → first_of (by_book (live_refusals state.exchange.book proposed.market)) ≡ None
    → (bound : Frac128) → proposed.submission.orders ≡ numbers_of (batch_in state.exchange proposed.market).orders
    → proposal_bound limit (batch_in state.exchange proposed.market) proposed.submission.proposal ≡ Ok (fraction_of bound)
    → IsProvedBest (batch_in state.exchange proposed.market) (after_proposed state.kept proposed bound)
taken_is_proved state sound proposed none bound orders judged =
    let market = proposed.market in
    let batch = batch_in state.exchange market in
    let (m, found, unsettled) = listing_live state.exchange.book market (live_none state.exchange.book market none) in
    let live : IfSome (best_in market (numbers_of batch.orders) state.kept) (IsProvedBest batch) =
    subst (λ (b : Batch). IfSome (best_in market (numbers_of b.orders) state.kept) (IsProvedBest b)) (sym (batch_is state market m found))
    (best_proved state.exchange.book market m found state.kept sound.proved) in
    offers_stay_proved batch (kept_in market state.kept) proposed.submission.orders proposed.submission.proposal bound
    (subst (λ (o : List ℕ). IfSome (best_for (kept_in market state.kept) o) (IsProvedBest batch)) (sym orders) live) judged
