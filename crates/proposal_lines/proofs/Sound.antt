-- What is kept stays proved as a proposal comes.
use Rattle.std.proofs.Common.{◌≡◌, ◌&&◌, Bool, true, false, if◌then◌else◌, Option, Some, None, Result, Ok, Err, refl, sym, ap, ◌∙◌, subst}
use Rattle.std.specs.Option.{option_map_or}
use Rattle.proposal_check.specs.Proposals.{proposal_bound}
use Rattle.proposal_check.specs.declared.covers.BoundFailure.{BoundFailure as Reason}
use Rattle.clearing.proofs.Values.{fraction_is}
use Rattle.exact_num.specs.Fraction.{Fraction}
use Rattle.exact_num.specs.Tests.{is_lowest}
use Rattle.exchange_core.specs.Refusals.{by_book}
use Rattle.exchange_core.specs.Step.{batch_in}
use Rattle.exchange_core.specs.declared.refusal.Refusal.{Refusal}
use Rattle.form.specs.declared.orders.Batch.{Batch}
use Rattle.frac.specs.Range.{limit}
use Rattle.frac.specs.ValueOf.{has_128_bits, value_from, value_of}
use Rattle.frac.specs.declared.frac128.Frac128.{Frac128}
use Rattle.order_book.specs.Book.{BookState, batch_of, market_of}
use Rattle.order_book.specs.Kept.{IsBookKept}
use Rattle.order_book.specs.Markets.{MarketState}
use Rattle.order_book.specs.Numbers.{numbers_of}
use Rattle.order_book.specs.Refusals.{live_refusals}
use Rattle.proposal_text.specs.declared.replies.FailureKind.TheVariants as failed
use Rattle.proposal_text.specs.declared.replies.ProposalReply.{ProposalReply}
use Rattle.proposals.specs.Best.{are_same_orders}
use Rattle.lists.specs.Refusals.{first_of}
use Rattle.proposal_lines.specs.KeptByMarket.{KeptProposals}
use Rattle.proposal_lines.specs.Laws.{IsRefused, RefusedChangeNothing}
use Rattle.proposal_lines.specs.Proposed.{after_proposed, judged_effect, kept_by, offered, proposed_by, stale_effect, unproved_effect}
use Rattle.proposal_lines.specs.ProposingState.{state_of}
use Rattle.proposal_lines.specs.Proved.{AreProvedIn}
use Rattle.proposal_lines.specs.Reads.{refused_by}
use Rattle.proposal_lines.specs.declared.proposed.Proposed.{Proposed}
use Rattle.proposal_text.specs.declared.replies.ServedReply.TheVariants.{Told}
use Rattle.proposal_lines.proofs.Kept.{offered_proved, with_proved}

module _ (book : BookState) (is_kept : IsBookKept book) (kept : KeptProposals) (are : AreProvedIn book kept) (proposed : Proposed)
    (m : MarketState) (found : market_of book proposed.market ≡ Some m) (same : are_same_orders proposed.submission.orders (numbers_of m.live) ≡ true) where
  value_proved : (B : Fraction) (b : Bool) → (is_lowest B && has_128_bits B) ≡ b → proposal_bound limit (batch_of m) proposed.submission.proposal ≡ Ok B
      → AreProvedIn book (option_map_or (kept_by kept proposed) (if b then Some (value_of B) else None) (unproved_effect kept failed.Wide)).1
  value_proved B true is bound =
      let proves = bound ∙ ap Ok (sym (fraction_is B is)) in
      let best = after_proposed kept proposed (value_of B) in
      with_proved book proposed.market best
      (offered_proved book proposed.market m found is_kept proposed.submission.orders same proposed.submission.proposal (value_of B) proves kept are) kept are
  value_proved B false is bound = are

  judged_proved : (bound : Result Fraction Reason) → proposal_bound limit (batch_of m) proposed.submission.proposal ≡ bound → AreProvedIn book (judged_effect kept proposed bound).1
  judged_proved (Err reason) is = are
  judged_proved (Ok B) is = value_proved B (is_lowest B && has_128_bits B) refl is

pub offer_proved : (book : BookState) → IsBookKept book → (kept : KeptProposals) → AreProvedIn book kept → (proposed : Proposed) (m : MarketState) → market_of book proposed.market ≡ Some m
    → (batch : Batch) → batch ≡ batch_of m → AreProvedIn book (offered kept proposed batch).1
offer_proved book is_kept kept are proposed m found batch is =
    subst (λ (b : Batch). AreProvedIn book (offered kept proposed b).1) (sym is) (by (are_same_orders proposed.submission.orders (numbers_of m.live)) refl)
  where
    bound : Result Fraction Reason
    bound = proposal_bound limit (batch_of m) proposed.submission.proposal

    by : (t : Bool) → are_same_orders proposed.submission.orders (numbers_of m.live) ≡ t → AreProvedIn book (if t then judged_effect kept proposed bound else stale_effect kept).1
    by true same = judged_proved book is_kept kept are proposed m found same bound refl
    by false same = are

-- ---- one that is refused changes nothing
module _ (kept : KeptProposals) (proposed : Proposed) where
  abbrev IsUnchanged : ProposalReply × KeptProposals → Type 0
  IsUnchanged now = IsRefused (Told now.0) → now.1 ≡ kept

  value_refused : (bound : Option Frac128) → IsUnchanged (option_map_or (kept_by kept proposed) bound (unproved_effect kept failed.Wide))
  value_refused None refused = refl
  value_refused (Some bound) refused = absurd refused

  judged_refused : (bound : Result Fraction Reason) → IsUnchanged (judged_effect kept proposed bound)
  judged_refused (Err reason) refused = refl
  judged_refused (Ok B) refused = value_refused (value_from B) refused

  offered_refused : (batch : Batch) → IsUnchanged (offered kept proposed batch)
  offered_refused batch = by (are_same_orders proposed.submission.orders (numbers_of batch.orders))
    where
      by : (same : Bool) → IsUnchanged (if same then judged_effect kept proposed (proposal_bound limit batch proposed.submission.proposal) else stale_effect kept)
      by true refused = judged_refused (proposal_bound limit batch proposed.submission.proposal) refused
      by false refused = refl

pub refused_change_nothing : RefusedChangeNothing
refused_change_nothing state (Err fault) = λ refused. refl
refused_change_nothing state (Ok proposed) = by (first_of (by_book (live_refusals state.exchange.book proposed.market)))
  where
    by : (r : Option Refusal) → (let now = option_map_or (λ first. (refused_by first, state)) r (proposed_by state proposed) in IsRefused now.0 → now.1 ≡ state)
    by (Some first) refused = refl
    by None refused = ap (state_of state.exchange) (offered_refused state.kept proposed (batch_in state.exchange proposed.market) refused)
