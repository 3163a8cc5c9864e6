-- Lines that propose fills for a market.
use Rattle.std.specs.Prelude.{ℕ, List, drop, ◌≡◌, Option, Some, None, Result, Ok, Err, if◌then◌else◌}
use Rattle.std.specs.Option.{option_map_or}
use Rattle.proposal_check.specs.Proposals.{proposal_bound}
use Rattle.proposal_check.specs.declared.covers.BoundFailure.{BoundFailure as Reason}
use Rattle.command_text.specs.declared.asked.Fault.{Fault}
use Rattle.command_text.specs.declared.asked.Fault.TheVariants.{Range}
use Rattle.command_text.specs.declared.requests.ProposeRequest.{ProposeRequest}
use Rattle.command_text.specs.Trades.{with_some}
use Rattle.exact_num.specs.Fraction.{Fraction}
use Rattle.exchange_core.specs.Refusals.{by_book}
use Rattle.exchange_core.specs.Step.{batch_in}
use Rattle.form.specs.declared.orders.Batch.{Batch}
use Rattle.frac.specs.Range.{limit}
use Rattle.frac.specs.Value.{fraction_of}
use Rattle.frac.specs.ValueOf.{value_from}
use Rattle.frac.specs.declared.frac128.Frac128.{Frac128}
use Rattle.order_book.specs.Numbers.{numbers_of}
use Rattle.order_book.specs.Refusals.{live_refusals}
use Rattle.proposal_text.specs.Pieces.{failed_as}
use Rattle.proposal_text.specs.Submissions.{submission_of}
use Rattle.proposal_text.specs.declared.replies.FailureKind.{FailureKind}
use Rattle.proposal_text.specs.declared.replies.FailureKind.TheVariants as failed
use Rattle.proposal_text.specs.declared.replies.ProposalReply.{ProposalReply}
use Rattle.proposal_text.specs.declared.replies.ProposalReply.TheVariants as told
use Rattle.proposal_text.specs.declared.submissions.Submission.{Submission}
use Rattle.proposals.specs.Best.{after_offer, are_same_orders}
use Rattle.proposals.specs.declared.best.Best.{Best}
use Rattle.lists.specs.Refusals.{first_of}
use Rattle.proposal_lines.specs.KeptByMarket.{KeptProposals, kept_in, with_kept}
use Rattle.proposal_lines.specs.ProposingState.{ProposingState}
use Rattle.proposal_lines.specs.Reads.{refused_by, refused_by_fault}
use Rattle.proposal_lines.specs.declared.proposed.Proposed.{Proposed}
use Rattle.proposal_text.specs.declared.replies.ServedReply.{ServedReply}
use Rattle.proposal_text.specs.declared.replies.ServedReply.TheVariants.{Told}

-- ---- what is proposed
-- the proposal is the text from a place of the line on; a market out of its range is told only where
-- there is one
abbrev pub for_market : Option ℕ → Submission → Result Proposed Fault
for_market None submission = Err (Range 2)
for_market (Some market) submission = Ok (record { market = market; submission = submission })

abbrev pub proposed_of : List ℕ → ProposeRequest → Result Proposed Fault
proposed_of line request = with_some (submission_of (drop request.from line)) (for_market request.market)

-- ---- what becomes of it
-- what is kept after a proposal that proves this bound
abbrev pub after_proposed : KeptProposals → Proposed → Frac128 → Best
after_proposed kept proposed bound =
    after_offer (kept_in proposed.market kept) proposed.submission.orders proposed.submission.proposal bound

abbrev pub told_bound : Proposed → Frac128 → Best → ProposalReply
told_bound proposed bound best =
    told.Proposed proposed.market proposed.submission.proposal.claim.surplus bound best.covered.claim.surplus best.bounded.bound

abbrev pub kept_by : KeptProposals → Proposed → Frac128 → ProposalReply × KeptProposals
kept_by kept proposed bound =
    let best = after_proposed kept proposed bound in (told_bound proposed bound best, with_kept proposed.market best kept)

abbrev pub unproved_effect : KeptProposals → FailureKind → ProposalReply × KeptProposals
unproved_effect kept f = (told.Unproved f, kept)

-- by the judgement, whose bound is a number of the code
abbrev pub judged_effect : KeptProposals → Proposed → Result Fraction Reason → ProposalReply × KeptProposals
judged_effect kept proposed (Err reason) = unproved_effect kept (failed_as reason)
judged_effect kept proposed (Ok B) = option_map_or (kept_by kept proposed) (value_from B) (unproved_effect kept failed.Wide)

abbrev pub stale_effect : KeptProposals → ProposalReply × KeptProposals
stale_effect kept = (told.Stale, kept)

-- the orders are the live ones of the market, or the proposal is stale
abbrev pub offered : KeptProposals → Proposed → Batch → ProposalReply × KeptProposals
offered kept proposed batch =
    if are_same_orders proposed.submission.orders (numbers_of batch.orders)
    then judged_effect kept proposed (proposal_bound limit batch proposed.submission.proposal)
    else stale_effect kept

abbrev pub proposed_by : ProposingState → Proposed → ServedReply × ProposingState
proposed_by state proposed =
    let now = offered state.kept proposed (batch_in state.exchange proposed.market) in (Told now.0, record state { kept = now.1 })

-- the first refusal of a proposal by its market, or what becomes of it; the exchange stays as it is
abbrev pub proposed_reply : ProposingState → Result Proposed Fault → ServedReply × ProposingState
proposed_reply state (Err fault) = (refused_by_fault fault, state)
proposed_reply state (Ok proposed) =
    option_map_or (λ first. (refused_by first, state)) (first_of (by_book (live_refusals state.exchange.book proposed.market)))
    (proposed_by state proposed)

-- ---- as the code answers
-- the bound is the judgement's, or what fails is
abbrev pub IsJudged : Result Fraction Reason → Result Frac128 FailureKind → Type 0
IsJudged (Ok B) (Ok bound) = B ≡ fraction_of bound
IsJudged (Ok B) (Err f) = ⊥
IsJudged (Err reason) (Ok bound) = ⊥
IsJudged (Err reason) (Err f) = f ≡ failed_as reason
