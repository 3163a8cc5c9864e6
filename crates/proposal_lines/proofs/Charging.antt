-- What a clear charges.
use Rattle.std.proofs.Common.{◌≡◌, ℕ, ◌+◌, map, [], true, Option, Some, None, Result, Ok, Err, refl, sym, ap, ◌∙◌, subst}
use Rattle.std.specs.Option.{ok_or, option_map, option_map_or}
use Rattle.proposal_check.specs.Proposals.{proposal_bound}
use Rattle.cert_check.specs.declared.outcome.Outcome.{Outcome}
use Rattle.proposal_check.specs.declared.covers.BoundFailure.{BoundFailure as Reason}
use Rattle.clearing_model.specs.Certificate.{AreFractionFills}
use Rattle.exact_num.specs.Fraction.{Fraction}
use Rattle.exchange_core.specs.ExchangeState.{ExchangeState}
use Rattle.exchange_core.specs.Kept.{IsKept}
use Rattle.exchange_core.specs.Step.{batch_in, cleared_with}
use Rattle.form.specs.declared.orders.Batch.{Batch}
use Rattle.frac.specs.Range.{limit}
use Rattle.frac.specs.Value.{fraction_of}
use Rattle.frac.specs.declared.frac128.Frac128.{Frac128}
use Rattle.frac.proofs.PartSteps.{value_from-fraction_of}
use Rattle.order_book.specs.Book.{BookState, after_batch, batch_of, market_of}
use Rattle.order_book.specs.Markets.{MarketState}
use Rattle.order_book.specs.Numbers.{numbers_of}
use Rattle.proposal_text.specs.declared.replies.BoundedOutcome.{BoundedOutcome}
use Rattle.proposal_text.specs.declared.replies.FailureKind.{FailureKind}
use Rattle.proposal_text.specs.declared.replies.ProposalReply.TheVariants as told
use Rattle.proposal_text.specs.declared.replies.ProposalReply.TheVariants.{Unproved}
use Rattle.proposals.specs.Best.{are_same_orders}
use Rattle.reply_print.specs.declared.replies.Reply.TheVariants as reply
use Rattle.proposal_lines.specs.Clears.{better_than, charge_effect}
use Rattle.proposal_lines.specs.KeptByMarket.{KeptProposals, bounded_in, without_kept}
use Rattle.proposal_lines.specs.ProposingState.{ProposingState, state_of}
use Rattle.proposal_lines.specs.Proposed.{IsJudged, judged_effect, kept_by, offered}
use Rattle.proposal_lines.specs.Proved.{AreProvedIn}
use Rattle.proposal_lines.specs.declared.proposed.Proposed.{Proposed}
use Rattle.proposal_text.specs.declared.replies.ServedReply.TheVariants.{Plain, Told}
use Rattle.proposal_lines.proofs.Clearing as clearing
use Rattle.proposal_lines.proofs.Kept.{without_proved}
use Rattle.proposal_lines.proofs.Moving.{after_batch_proved, entries_moved}
use Rattle.proposal_lines.proofs.Sound.{offer_proved}

pub batch_found : (state : ExchangeState) (market : ℕ) (batch : Batch) → option_map batch_of (market_of state.book market) ≡ Some batch → batch_in state market ≡ batch
batch_found state market batch e = by (market_of state.book market) e
  where
    by : (m : Option MarketState) → option_map batch_of m ≡ Some batch → option_map_or batch_of m (record { underlyings = 0; orders = [] }) ≡ batch
    by None e = cc
    by (Some m) e = cc

-- what takes the place of an outcome is fills of the batch, where those of the outcome are
pub better_fills : (book : BookState) (market : ℕ) (batch : Batch) → option_map batch_of (market_of book market) ≡ Some batch
    → (kept : KeptProposals) → AreProvedIn book kept → (outcome : Outcome) → AreFractionFills batch.orders (map fraction_of outcome.fills)
    → (better : BoundedOutcome) → bounded_in market (numbers_of batch.orders) outcome kept ≡ Some better
    → AreFractionFills batch.orders (map fraction_of better.proposal.fills)
better_fills book market batch found kept are outcome fills better is = by (market_of book market) refl found
  where
    by : (m : Option MarketState) → market_of book market ≡ m → option_map batch_of m ≡ Some batch → AreFractionFills batch.orders (map fraction_of better.proposal.fills)
    by None none e = cc
    by (Some m) there e =
        let own : batch ≡ batch_of m = cc in clearing.better_fills book market m there kept are batch own outcome fills better is

-- what was taken in place of an outcome, or the outcome itself
pub taken_better : {A E : Type 0} (better : Option A) (outcome : E) (x : A) → ok_or better outcome ≡ Ok x → better ≡ Some x
taken_better None outcome x is = absurd (cc)
taken_better (Some better) outcome x is = cc

pub taken_none : {A E : Type 0} (better : Option A) (outcome left : E) → ok_or better outcome ≡ Err left → (better ≡ None) × (left ≡ outcome)
taken_none None outcome left is = (refl, cc)
taken_none (Some better) outcome left is = absurd (cc)

-- what is kept stays proved, without what was kept for the market
batch_keeps : (book : BookState) (market : ℕ) (kept : KeptProposals) → AreProvedIn book kept → AreProvedIn (after_batch book market) kept
batch_keeps book market kept are = entries_moved book (after_batch book market) (λ q best is. after_batch_proved book q best is market) kept are

pub batch_keeps_others : (book : BookState) (market : ℕ) (kept : KeptProposals) → AreProvedIn book kept → AreProvedIn (after_batch book market) (without_kept market kept)
batch_keeps_others book market kept are = batch_keeps book market (without_kept market kept) (without_proved book market kept are)

module _ (state : ProposingState) (market : ℕ) (batch : Batch) (outcome : Outcome) (found : option_map batch_of (market_of state.exchange.book market) ≡ Some batch) where
  own : batch_in state.exchange market ≡ batch
  own = batch_found state.exchange market batch found

  better_is : (better : Option BoundedOutcome) → better ≡ bounded_in market (numbers_of batch.orders) outcome state.kept → better_than state market outcome ≡ better
  better_is better e = ap (λ (b : Batch). bounded_in market (numbers_of b.orders) outcome state.kept) own ∙ sym e

  pub bounded_charged : (better : BoundedOutcome) → Some better ≡ bounded_in market (numbers_of batch.orders) outcome state.kept
      → (number : ℕ) → number ≡ state.exchange.book.finished + 1 → (after : ExchangeState) → after ≡ cleared_with state.exchange market better.proposal.fills
      → (kept : KeptProposals) → kept ≡ without_kept market state.kept
      → (Told (told.Bounded number market batch better), state_of after kept) ≡ charge_effect state market outcome (better_than state market outcome)
  bounded_charged better e number counted after cleared kept left =
      subst (λ b. (Told (told.Bounded number market batch better), state_of after kept) ≡ charge_effect state market outcome b) (sym (better_is (Some better) e)) (rw (counted, cleared, left, own) refl)

  pub reference_charged : None ≡ bounded_in market (numbers_of batch.orders) outcome state.kept
      → (number : ℕ) → number ≡ state.exchange.book.finished + 1 → (after : ExchangeState) → after ≡ cleared_with state.exchange market outcome.fills
      → (kept : KeptProposals) → kept ≡ without_kept market state.kept
      → (Plain (reply.Cleared number market batch outcome), state_of after kept) ≡ charge_effect state market outcome (better_than state market outcome)
  reference_charged e number counted after cleared kept left =
      subst (λ b. (Plain (reply.Cleared number market batch outcome), state_of after kept) ≡ charge_effect state market outcome b) (sym (better_is None e)) (rw (counted, cleared, left, own) refl)

-- ---- a proposal is taken in
pub offer_keeps : (state : ExchangeState) → IsKept state → (kept : KeptProposals) → AreProvedIn state.book kept → (proposed : Proposed) (batch : Batch)
    → option_map batch_of (market_of state.book proposed.market) ≡ Some batch → AreProvedIn state.book (offered kept proposed batch).1
offer_keeps state is_kept kept are proposed batch found = by (market_of state.book proposed.market) refl found
  where
    by : (m : Option MarketState) → market_of state.book proposed.market ≡ m → option_map batch_of m ≡ Some batch → AreProvedIn state.book (offered kept proposed batch).1
    by None none e = cc
    by (Some m) there e =
        let own : batch ≡ batch_of m = cc in
        offer_proved state.book is_kept.orders.book kept are proposed m there batch own

-- it is judged
judged_bound : (judged : Result Fraction Reason) (bound : Frac128) → IsJudged judged (Ok bound) → judged ≡ Ok (fraction_of bound)
judged_bound (Ok B) bound is = ap Ok is
judged_bound (Err reason) bound is = absurd is

judged_failed : (judged : Result Fraction Reason) (f : FailureKind) → IsJudged judged (Err f) → (kept : KeptProposals) (proposed : Proposed) → (Unproved f, kept) ≡ judged_effect kept proposed judged
judged_failed (Ok B) f is kept proposed = absurd is
judged_failed (Err reason) f is kept proposed = ap (λ f. (Unproved f, kept)) is

module _ (kept : KeptProposals) (proposed : Proposed) (batch : Batch) (same : are_same_orders proposed.submission.orders (numbers_of batch.orders) ≡ true) where
  pub offered_bound : (bound : Frac128) → IsJudged (proposal_bound limit batch proposed.submission.proposal) (Ok bound) → kept_by kept proposed bound ≡ offered kept proposed batch
  offered_bound bound is = rw (same, judged_bound (proposal_bound limit batch proposed.submission.proposal) bound is, value_from-fraction_of bound) refl

  pub offered_failed : (f : FailureKind) → IsJudged (proposal_bound limit batch proposed.submission.proposal) (Err f) → (Unproved f, kept) ≡ offered kept proposed batch
  offered_failed f is = rw same (judged_failed (proposal_bound limit batch proposed.submission.proposal) f is kept proposed)
