-- A proposal that is judged a bound for the live orders is taken: its bound is a number of the
-- code.
use Rattle.std.proofs.Common.{◌≡◌, ℕ, List, [], ◌∷◌, Bool, true, false, Option, Some, None, Result, Ok, Err, pos, if◌then◌else◌, refl, ap, sym, subst, arith}
use Rattle.std.specs.Prelude.{IsOk}
use Rattle.std.specs.Option.{option_map_or}
use Rattle.std.proofs.lemmas.Slice.Eq.{bytes_eq-Decides}
use Rattle.proposal_check.specs.Proposals.{covered_bound, fitting, has_shape, measured_bound, proposal_bound, proposal_covered, require}
use Rattle.cert_check.specs.Shape.{are_fills}
use Rattle.cert_check.specs.Tests.{measure_holds}
use Rattle.cert_check.specs.declared.outcome.FailedCondition.{FailedCondition}
use Rattle.cert_check.specs.declared.outcome.FailedCondition.TheVariants as no
use Rattle.proposal_check.specs.declared.covers.Proposal.{Proposal}
use Rattle.proposal_check.specs.declared.covers.BoundFailure.{BoundFailure as Reason}
use Rattle.exact_num.specs.declared.misfit.Wide.{Wide}
use Rattle.exact_num.specs.Fits.{add_of, mul_of}
use Rattle.exact_num.specs.Fraction.{Fraction, IsLowest, whole}
use Rattle.exact_num.specs.Laws.{IsWithin}
use Rattle.exact_num.specs.Steps.{fold_steps}
use Rattle.exact_num.specs.Tests.{is_above_zero}
use Rattle.exact_num.proofs.After.{after_value}
use Rattle.exact_num.proofs.WithinLimits.{add_within}
use Rattle.exchange_core.specs.Step.{batch_in}
use Rattle.form.specs.declared.orders.Batch.{Batch}
use Rattle.form.specs.declared.orders.Order.{Order}
use Rattle.form.specs.Payoff.{bundle_of}
use Rattle.frac.specs.Range.{limit}
use Rattle.frac.specs.ValueOf.{value_from}
use Rattle.frac.specs.declared.frac128.Frac128.{Frac128}
use Rattle.frac.proofs.PartSteps.{value_from-fraction_of}
use Rattle.clearing_model.specs.Certificate.{Point}
use Rattle.cert_check.specs.Points.{points_of}
use Rattle.cert_check.specs.MeasureSums.{add_gain, bound_of, gain_at, plus_gain, price_of}
use Rattle.cert_check.proofs.MeasureSound.{bound_is_lowest, weights_lowest}
use Rattle.order_book.specs.Numbers.{numbers_of}
use Rattle.proposal_lines.specs.KeptByMarket.{KeptProposals}
use Rattle.proposal_lines.specs.Laws.{IsRefused}
use Rattle.proposal_lines.specs.Proposed.{judged_effect, kept_by, proposed_by, stale_effect, unproved_effect}
use Rattle.proposal_lines.specs.Reads.{refused_by}
use Rattle.proposal_lines.specs.declared.proposed.Proposed.{Proposed}
use Rattle.proposal_text.specs.declared.replies.ServedReply.TheVariants.{Told}
use Rattle.proposal_text.specs.declared.replies.FailureKind.TheVariants as failed
use Rattle.proposal_text.specs.declared.replies.ProposalReply.{ProposalReply}
use Rattle.proposals.specs.Best.{are_same_orders}
use Rattle.book_proposals.specs.Answers.{submission_for}
use Rattle.book_proposals.specs.Laws.{ProposalsAreTaken}

-- ---- a bound is within the limit
gained_within : (n quantity : ℕ) (total gain s : Fraction) (b : Bool) → is_above_zero gain ≡ b → IsWithin n total → plus_gain n total quantity gain ≡ Ok s → IsWithin n s
gained_within n quantity total gain s true is within h =
    let product = after_value (mul_of n (whole (pos quantity)) gain) (add_of n total) s (rw is at h) in
    add_within n total product.value s product.rest
gained_within n quantity total gain s false is within h =
    let none : Ok total ≡ Ok s = rw is at h in
    let same : total ≡ s = cc (none) in
    subst (IsWithin n) same within

sum_of_gains : (n : ℕ) (points : List Point) (orders : List Order) (total bound : Fraction) → IsWithin n total → fold_steps (add_gain n points) total orders ≡ Ok bound → IsWithin n bound
sum_of_gains n points [] total bound within h =
    let same : total ≡ bound = cc (h) in
    subst (IsWithin n) same within
sum_of_gains n points (o ∷ orders) total bound within h =
    let step = after_value (add_gain n points total o) (λ next. fold_steps (add_gain n points) next orders) bound h in
    let price = after_value (price_of n (bundle_of o) points) _ step.value step.first in
    let gain = after_value (gain_at n o.side (whole (pos o.price)) price.value) (plus_gain n total o.quantity) step.value price.rest in
    sum_of_gains n points orders step.value bound (gained_within n o.quantity total gain.value step.value (is_above_zero gain.value) refl within gain.rest) step.rest

zero_within : IsWithin limit (whole (pos 0))
zero_within = record { above = omega arith; below = omega arith }

-- so it is a number of the code
number_of : (B : Fraction) → IsLowest B → IsWithin limit B → (x : Frac128) × (value_from B ≡ Some x)
number_of B lowest within =
    let x : Frac128 = record {
      numerator = B.numerator;
      denominator = B.denominator;
      lowest = lowest;
      above_fits = omega (arith, within.above);
      below_fits = omega (arith, within.below);
    } in
    (x, value_from-fraction_of x)

-- ---- the judgement's bound is the measure's
required : (condition : FailedCondition) (holds : Result Bool Wide) (next : Result Fraction Reason) (B : Fraction) → require condition holds next ≡ Ok B → next ≡ Ok B
required condition (Ok true) next B h = h
required condition (Ok false) next B h = absurd (cc (h))
required condition (Err w) next B h = absurd (cc (h))

fitted : (sum : Result Fraction Wide) (B : Fraction) → fitting sum ≡ Ok B → sum ≡ Ok B
fitted (Ok sum) B h = let same : sum ≡ B = cc (h) in ap Ok same
fitted (Err w) B h = absurd (cc (h))

judged_number : (batch : Batch) (proposal : Proposal) (B : Fraction) → proposal_bound limit batch proposal ≡ Ok B → (x : Frac128) × (value_from B ≡ Some x)
judged_number batch proposal B h =
    let points = points_of proposal.measure in
    let covered = covered_bound limit batch proposal in
    let fills = require no.Fill (Ok (are_fills batch.orders proposal.fills)) covered in
    let measured = measured_bound limit batch.orders proposal.measure in
    let filled = required no.BatchShape (Ok (has_shape batch proposal)) fills B h in
    let behind = required no.Fill (Ok (are_fills batch.orders proposal.fills)) covered B filled in
    let bounded = required no.Cover (proposal_covered limit batch proposal) measured B behind in
    let fits = required no.Measure (measure_holds limit points) (fitting (bound_of limit batch.orders points)) B bounded in
    let sum = fitted (bound_of limit batch.orders points) B fits in
    number_of B (bound_is_lowest limit batch.orders points B (weights_lowest proposal.measure.points) sum)
    (sum_of_gains limit points batch.orders (whole (pos 0)) B zero_within sum)

-- ---- what is told of it
abbrev Taken : ProposalReply × KeptProposals → Type 0
Taken now = ¬ (IsRefused (Told now.0))

value_taken : (kept : KeptProposals) (proposed : Proposed) (value : Option Frac128) (x : Frac128) → value ≡ Some x
    → Taken (option_map_or (kept_by kept proposed) value (unproved_effect kept failed.Wide))
value_taken kept proposed (Some bound) x is = λ refused. refused
value_taken kept proposed None x is = absurd (cc (is))

bound_taken : (kept : KeptProposals) (proposed : Proposed) (batch : Batch) (judged : Result Fraction Reason)
    → proposal_bound limit batch proposed.submission.proposal ≡ judged → IsOk judged → Taken (judged_effect kept proposed judged)
bound_taken kept proposed batch (Ok B) is ok =
    let number = judged_number batch proposed.submission.proposal B is in value_taken kept proposed (value_from B) number.0 number.1
bound_taken kept proposed batch (Err reason) is ok = absurd (cc (ok))

offer_taken : (kept : KeptProposals) (proposed : Proposed) (batch : Batch) (same : Bool) → same ≡ true → IsOk (proposal_bound limit batch proposed.submission.proposal)
    → Taken (if same then judged_effect kept proposed (proposal_bound limit batch proposed.submission.proposal) else stale_effect kept)
offer_taken kept proposed batch true is ok = bound_taken kept proposed batch (proposal_bound limit batch proposed.submission.proposal) refl ok
offer_taken kept proposed batch false is ok = absurd (cc (is))

pub proposals_are_taken : ProposalsAreTaken
proposals_are_taken state market proposal none ok =
    let live = batch_in state.exchange market in
    let proposed : Proposed = record { market = market; submission = submission_for live proposal } in
    let numbers = numbers_of live.orders in
    let same : are_same_orders numbers numbers ≡ true = (bytes_eq-Decides numbers numbers).1 refl in
    subst (λ r. ¬ (IsRefused (option_map_or (λ first. (refused_by first, state)) r (proposed_by state proposed)).0)) (sym none)
    (offer_taken state.kept proposed live (are_same_orders numbers numbers) same ok)
