-- A better proposal is used.
use Rattle.std.proofs.Common.{◌≡◌, ℕ, List, [], ◌∷◌, Bool, true, false, map, nat_eq, if◌then◌else◌, Option, Some, None, inl, inr, ⊎_elim, refl, sym, ap, ◌∙◌, subst, arith}
use Rattle.std.specs.Prelude.{◌⊎◌, IfSome}
use Rattle.std.specs.Option.{option_map_or}
use Rattle.std.proofs.lemmas.Int.{ints}
use Rattle.std.proofs.lemmas.Option.{none-some}
use Rattle.std.proofs.lemmas.Bool.{eqb-true}
use Rattle.arithmetic.proofs.Tests.{nat_eq-turned}
use Rattle.auction_phases.specs.Phases.{ended_by}
use Rattle.cert_check.specs.Conditions.{IfOptimal}
use Rattle.cert_check.specs.Laws.{IsCovered, IsMeasured, IsProved}
use Rattle.proposal_check.specs.ProposalLaws.{Proves}
use Rattle.proposal_check.specs.Proposals.{as_outcome}
use Rattle.cert_check.specs.declared.outcome.Mark.{Mark}
use Rattle.cert_check.specs.declared.outcome.Mark.TheVariants.{Optimal, Wide, Budget}
use Rattle.cert_check.specs.declared.outcome.Outcome.{Outcome}
use Rattle.proposal_check.specs.declared.covers.Proposal.{Proposal}
use Rattle.proposal_check.proofs.Proposals.{proposals_are_decided}
use Rattle.clearing.specs.Outcome.{outcome_of}
use Rattle.command_text.specs.Commands.{body_of_line}
use Rattle.command_text.specs.declared.command.Body.{Body}
use Rattle.command_text.specs.declared.command.Body.TheVariants as body
use Rattle.command_text.specs.declared.command.Command.{Command}
use Rattle.command_text.specs.declared.command.Command.TheVariants as command
use Rattle.exact_num.specs.Fraction.{AtMost, Fraction}
use Rattle.exact_num.specs.Tests.{is_at_most}
use Rattle.exchange_core.specs.declared.refusal.Refusal.{Refusal}
use Rattle.exchange_core.specs.Covered.{IfCleared, IsProvedGreatest, OfEachCleared}
use Rattle.exchange_core.specs.ExchangeState.{ExchangeState}
use Rattle.exchange_core.specs.Kept.{IsKept}
use Rattle.exchange_core.specs.LineReplies.{reply_to}
use Rattle.exchange_core.specs.Refusals.{refusal_of}
use Rattle.exchange_core.specs.Step.{batch_in, effect, refusal_effect, step}
use Rattle.exchange_core.proofs.Covered.{step_is_covered, step_is_optimal}
use Rattle.exchange_lines.specs.GainRuns.{IfClears}
use Rattle.exchange_lines.specs.LineSteps.{InputLine, line_of}
use Rattle.exchange_lines.specs.Replies.{Answer}
use Rattle.form.specs.declared.orders.Batch.{Batch}
use Rattle.frac.specs.Value.{fraction_of}
use Rattle.frac.specs.declared.frac128.Frac128.{Frac128}
use Rattle.order_book.specs.Numbers.{numbers_of}
use Rattle.proposals.specs.Best.{after_offer, are_same_orders, best_for, best_of, better_measure, joined, surplus_of}
use Rattle.proposals.specs.Laws.{IsNoWorse}
use Rattle.proposals.specs.declared.best.Best.{Best}
use Rattle.proposals.specs.declared.best.BoundedMeasure.{BoundedMeasure}
use Rattle.proposals.proofs.Offers.{offers_lose_nothing}
use Rattle.proposal_text.specs.declared.replies.BoundedOutcome.{BoundedOutcome}
use Rattle.reply_print.specs.declared.replies.Reply.{Reply}
use Rattle.reply_print.specs.declared.replies.Reply.TheVariants.{Opened, Deposited, Withdrawn, Listed, Placed, Cancelled, Cleared, Settled, Balance, Refused}
use Rattle.proposal_lines.specs.Answers.{AreToldFor, BoundedAnswer, IsBoundedFor, IsRepliedFor, IsTakenFor, IsToldFor, ProposalAnswer, TakenAnswer, beside, bounded, replied, taken}
use Rattle.proposal_lines.specs.Clears.{reference_in}
use Rattle.proposal_lines.specs.KeptByMarket.{after_end, bounded_as, kept_in, stop_of, without_kept}
use Rattle.proposal_lines.specs.Laws.{IsMatch, IsSound, NoneCounts, counted_in}
use Rattle.proposal_lines.specs.Output.{proposing_line}
use Rattle.proposal_lines.specs.Proposed.{after_proposed}
use Rattle.proposal_lines.specs.ProposingState.{ProposingState}
use Rattle.proposal_lines.specs.UsesBest.{BestIsUsed, IfTaken, IsAsGood, IsUsedBy, ToldClear, UsesTheBest, clear_in, cleared_in, clears_or, if_of, told_clear}
use Rattle.proposal_lines.proofs.ByMarket.{others_kept, others_removed, own_counts}
use Rattle.proposal_lines.proofs.Clearing.{better_is, bounded_bound, chosen, is_most, not_below_kept}
use Rattle.proposal_lines.proofs.Lowering.{after_counts, at_most_trans, no_less_than_new}
use Rattle.proposal_lines.proofs.SoundAfter.{told_sound}
use Rattle.proposal_lines.proofs.StaySettled.{IsOver, IsOverWhereSettled, cleared_over, never_cleared, reply_over, reply_settles}

-- ---- a bound that is kept is at most the new one
new_no_more : (kept new : BoundedMeasure) → AtMost (fraction_of (better_measure kept new).bound) (fraction_of new.bound)
new_no_more kept new = by (is_at_most (fraction_of kept.bound) (fraction_of new.bound)) refl
  where
    by : (t : Bool) → is_at_most (fraction_of kept.bound) (fraction_of new.bound) ≡ t → AtMost (fraction_of (if t then kept else new).bound) (fraction_of new.bound)
    by true is = is_most (fraction_of kept.bound) (fraction_of new.bound) is
    by false is = omega (arith, ints)

pub no_more_than_new : (orders : List ℕ) (proposal : Proposal) (bound : Frac128) (kept : Option Best)
    → AtMost (fraction_of (after_offer kept orders proposal bound).bounded.bound) (fraction_of bound)
no_more_than_new orders proposal bound None = omega (arith, ints)
no_more_than_new orders proposal bound (Some kept) =
    elim (are_same_orders kept.orders orders) as (λ t.
    AtMost (fraction_of (if t then joined kept (best_of orders proposal bound) else best_of orders proposal bound).bounded.bound) (fraction_of bound)) [
      | true ↦ new_no_more kept.bounded (best_of orders proposal bound).bounded
      | false ↦ omega (arith, ints)
    ]

-- ---- what counts for the live orders of a market is as good
abbrev claimed : Proposal → Fraction
claimed offer = fraction_of offer.claim.surplus

-- as good as this proposal, which proves this bound for their batch
record Counts (market : ℕ) (offer : Proposal) (bound : Fraction) (state : ProposingState) : Type 0 where
  best : Best
  counted : counted_in state market ≡ Some best
  no_less : AtMost (claimed offer) (surplus_of best.covered)
  no_more : AtMost (fraction_of best.bounded.bound) bound
  proves : Proves (batch_in state.exchange market) offer bound

-- where the same is kept for it, and its live orders stay
stay_counted : (market : ℕ) (offer : Proposal) (bound : Fraction) (state next : ProposingState) → Counts market offer bound state → kept_in market next.kept ≡ kept_in market state.kept
    → batch_in next.exchange market ≡ batch_in state.exchange market → Counts market offer bound next
stay_counted market offer bound state next counts kept same = record {
  best = counts.best;
  counted =
      ap (λ (b : Batch). best_for (kept_in market next.kept) (numbers_of b.orders)) same
      ∙ ap (λ k. best_for k (numbers_of (batch_in state.exchange market).orders)) kept ∙ counts.counted;
  no_less = counts.no_less;
  no_more = counts.no_more;
  proves = subst (λ (b : Batch). Proves b offer bound) (sym same) counts.proves;
}

-- ---- a batch that a run clears
-- what holds of each outcome of a clear that is accepted holds of what is told
module _ (state : ExchangeState) (R : ℕ → Outcome → Type 0)
    (each : (market budget : ℕ) → refusal_of state (command.Clear market budget) ≡ None → R market (outcome_of (batch_in state market) budget)) where
  abbrev HoldsOf : Reply → Type 0
  HoldsOf = IfClears (λ number market batch outcome. R market outcome)

  effect_clears : (c : Command) → refusal_of state c ≡ None → HoldsOf (effect state c).0
  effect_clears (command.Open account) none = tt
  effect_clears (command.Deposit account amount) none = tt
  effect_clears (command.Withdraw account amount) none = tt
  effect_clears (command.Market market underlyings) none = tt
  effect_clears (command.Trade side account market kind strike price quantity count weights) none = tt
  effect_clears (command.Bundle side account market price quantity bundle) none = tt
  effect_clears (command.Cancel account order) none = tt
  effect_clears (command.Clear market budget) none = each market budget none
  effect_clears (command.Settle market count prices) none = tt
  effect_clears (command.Balance account) none = tt

  step_clears : (c : Command) → HoldsOf (step state c).0
  step_clears c = by (refusal_of state c) refl
    where
      by : (refused : Option Refusal) → refusal_of state c ≡ refused → HoldsOf (option_map_or (refusal_effect state) refused (effect state c)).0
      by None none = effect_clears c none
      by (Some refusal) is = tt

  reply_clears : (said : Body) → HoldsOf (reply_to state said).0
  reply_clears (body.Command c) = step_clears c
  reply_clears body.Syntax = tt
  reply_clears (body.Range field) = tt

-- what holds of each cleared batch is said of the batch of its market
of_each : (P : Batch → Outcome → Type 0) → OfEachCleared P → (state : ExchangeState) → IsKept state → (market budget : ℕ) → refusal_of state (command.Clear market budget) ≡ None
    → P (batch_in state market) (outcome_of (batch_in state market) budget)
of_each P each state kept market budget none =
    subst (λ r. IfCleared P (option_map_or (refusal_effect state) r (effect state (command.Clear market budget))).0) none (each state (command.Clear market budget) kept)

-- ---- a proposal that is taken
module _ (state next : ProposingState) (line : InputLine) (answer : TakenAnswer) (is : IsTakenFor state line answer next) where
  abbrev own : ℕ
  own = answer.proposed.market

  abbrev new : Proposal
  new = answer.proposed.submission.proposal

  abbrev orders : List ℕ
  orders = answer.proposed.submission.orders

  live : orders ≡ numbers_of (batch_in state.exchange own).orders
  live = is.orders ∙ ap (λ (b : Batch). numbers_of b.orders) is.batch

  -- it is what counts
  taken_counted : counted_in next own ≡ Some answer.best
  taken_counted =
      ap (λ k. best_for k (numbers_of (batch_in next.exchange own).orders)) (ap (kept_in own) is.kept ∙ own_counts own answer.best state.kept)
      ∙ ap (best_for (Some answer.best)) (ap (λ (e : ExchangeState). numbers_of (batch_in e own).orders) is.exchange ∙ sym live)
      ∙ subst (λ best. best_for (Some best) orders ≡ Some best) (sym is.best) (after_counts orders new answer.bound (kept_in own state.kept))

  -- as good as the proposal itself
  taken_counts : Counts own new (fraction_of answer.bound) next
  taken_counts = record {
    best = answer.best;
    counted = taken_counted;
    no_less = subst (λ best. AtMost (claimed new) (surplus_of best.covered)) (sym is.best) (no_less_than_new orders new answer.bound (kept_in own state.kept));
    no_more = subst (λ best. AtMost (fraction_of best.bounded.bound) (fraction_of answer.bound)) (sym is.best) (no_more_than_new orders new answer.bound (kept_in own state.kept));
    proves =
        subst (λ (b : Batch). Proves b new (fraction_of answer.bound)) (is.batch ∙ ap (λ (e : ExchangeState). batch_in e own) (sym is.exchange))
        ((proposals_are_decided answer.batch new).proved (fraction_of answer.bound) is.judged);
  }

  -- and as what counted before
  taken_better : (market : ℕ) → market ≡ own → (offer : Proposal) (bound : Fraction) → Counts market offer bound state → batch_in next.exchange market ≡ batch_in state.exchange market
      → Counts market offer bound next
  taken_better market here offer bound counts same =
      let counted : best_for (kept_in own state.kept) orders ≡ Some counts.best = ap (best_for (kept_in own state.kept)) live ∙ ap (counted_in state) (sym here) ∙ counts.counted in
      let no_worse : IsNoWorse counts.best answer.best =
      subst (IsNoWorse counts.best) (sym is.best)
      (subst (λ o. IfSome o (λ best. IsNoWorse best (after_proposed state.kept answer.proposed answer.bound))) counted (offers_lose_nothing (kept_in own state.kept) orders new answer.bound)) in
      record {
        best = answer.best;
        counted = ap (counted_in next) here ∙ taken_counted;
        no_less = at_most_trans (claimed offer) (surplus_of counts.best.covered) (surplus_of answer.best.covered) counts.best.covered.claim.surplus.lowest.positive counts.no_less no_worse.surplus;
        no_more = at_most_trans (fraction_of answer.best.bounded.bound) (fraction_of counts.best.bounded.bound) bound counts.best.bounded.bound.lowest.positive no_worse.bound counts.no_more;
        proves = subst (λ (b : Batch). Proves b offer bound) (sym same) counts.proves;
      }

-- ---- one line
-- what counts is as good, or the market is settled and cleared no more
abbrev Serves : ℕ → Proposal → Fraction → ProposingState → Type 0
Serves market offer bound state = Counts market offer bound state ⊎ IsOver market state.exchange

-- as good as the proposal, or ready for the next line
abbrev IsUsedOr : ℕ → Proposal → Fraction → ProposingState → ProposingState → Option ToldClear → Type 0
IsUsedOr market offer bound state next told =
    clears_or (claimed offer) bound told (batch_in next.exchange market ≡ batch_in state.exchange market → Serves market offer bound next)

module _ (market : ℕ) (offer : Proposal) (bound : Fraction) (state next : ProposingState) (line : InputLine) (sound : IsSound state) (counts : Counts market offer bound state) where
  abbrev Later : Type 0
  Later = batch_in next.exchange market ≡ batch_in state.exchange market → Serves market offer bound next

  abbrev IsUsed : Option ToldClear → Type 0
  IsUsed = IsUsedOr market offer bound state next

  same_kept : kept_in market next.kept ≡ kept_in market state.kept → Later
  same_kept kept same = inl (stay_counted market offer bound state next counts kept same)

  -- what is kept for another market is let go of
  other_ends : (other : ℕ) → nat_eq other market ≡ false → next.kept ≡ without_kept other state.kept → Later
  other_ends other apart kept = same_kept (ap (kept_in market) kept ∙ others_removed other market (nat_eq-turned other market false apart) state.kept)

  -- a surplus that fills of the live orders cover
  covered_within : (outcome : Outcome) → IsCovered (batch_in state.exchange market) outcome → AtMost (fraction_of outcome.claim.surplus) bound
  covered_within outcome covered =
      counts.proves.bounds.none_above (map fraction_of outcome.fills) (fraction_of outcome.claim.surplus) outcome.claim.surplus.lowest.positive covered.covers

  -- that of a run, which did not stop: else something counts
  run_no_less : (outcome : Outcome) → IsProvedGreatest (batch_in state.exchange market) outcome → NoneCounts state market outcome → AtMost (claimed offer) (fraction_of outcome.claim.surplus)
  run_no_less outcome greatest none = by outcome.mark greatest none
    where
      by : (mark : Mark) → IfOptimal mark (λ cover measure. IsProved (batch_in state.exchange market) outcome × IsMeasured (batch_in state.exchange market) outcome measure)
          → IfSome (stop_of mark) (λ run. IsMatch (batch_in state.exchange market) outcome × (counted_in state market ≡ None)) → AtMost (claimed offer) (fraction_of outcome.claim.surplus)
      by (Optimal cover measure) proved none = (counts.proves.bounds.between (fraction_of outcome.claim.surplus) proved.0.greatest).0
      by (Wide wide) proved none = absurd (none-some counts.best (sym none.1 ∙ counts.counted))
      by Budget proved none = absurd (none-some counts.best (sym none.1 ∙ counts.counted))

  run_used : (outcome : Outcome) → IsCovered (batch_in state.exchange market) outcome → IsProvedGreatest (batch_in state.exchange market) outcome → NoneCounts state market outcome
      → IsAsGood (claimed offer) bound (told_clear (fraction_of outcome.claim.surplus) None)
  run_used outcome covered greatest none = record { no_less = run_no_less outcome greatest none; within = covered_within outcome covered; no_more = tt }

  replied_used : (answer : Answer) → IsRepliedFor state line answer next → IsUsed (clear_in market (replied answer))
  replied_used answer is =
      by answer.reply (has IsCovered step_is_covered) (has IsProvedGreatest step_is_optimal) is.uncounted is.kept
      (subst (λ (e : ExchangeState). IsOverWhereSettled e answer.reply) (sym is.exchange)
      (subst (λ (a : Answer). IsOverWhereSettled (reply_to state.exchange (line_of line).body).1 a.reply) (sym is.reply) (reply_settles state.exchange (line_of line).body)))
    where
      has : (P : Batch → Outcome → Type 0) → OfEachCleared P → IfClears (λ number other batch outcome. P (batch_in state.exchange other) outcome) answer.reply
      has P each =
          subst (λ (a : Answer). IfClears (λ number other batch outcome. P (batch_in state.exchange other) outcome) a.reply) (sym is.reply)
          (reply_clears state.exchange (λ other outcome. P (batch_in state.exchange other) outcome) (of_each P each state.exchange sound.kept) (line_of line).body)

      cleared : (other : ℕ) (outcome : Outcome) → IsCovered (batch_in state.exchange other) outcome → IsProvedGreatest (batch_in state.exchange other) outcome
          → NoneCounts state other outcome → next.kept ≡ without_kept other state.kept → (b : Bool) → nat_eq other market ≡ b
          → IsUsed (if b then Some (told_clear (fraction_of outcome.claim.surplus) None) else None)
      cleared other outcome covered greatest none kept true is_it =
          let here = eqb-true other market is_it in
          run_used outcome (subst (λ (q : ℕ). IsCovered (batch_in state.exchange q) outcome) here covered)
          (subst (λ (q : ℕ). IsProvedGreatest (batch_in state.exchange q) outcome) here greatest) (subst (λ (q : ℕ). NoneCounts state q outcome) here none)
      cleared other outcome covered greatest none kept false apart = other_ends other apart kept

      settled : (other : ℕ) → next.kept ≡ without_kept other state.kept → IsOver other next.exchange → (b : Bool) → nat_eq other market ≡ b → Later
      settled other kept over true is_it = λ same. inr (subst (λ (q : ℕ). IsOver q next.exchange) (eqb-true other market is_it) over)
      settled other kept over false apart = other_ends other apart kept

      by : (reply : Reply) → IfClears (λ number other batch outcome. IsCovered (batch_in state.exchange other) outcome) reply
          → IfClears (λ number other batch outcome. IsProvedGreatest (batch_in state.exchange other) outcome) reply
          → IfClears (λ number other batch outcome. NoneCounts state other outcome) reply → next.kept ≡ after_end state.kept (ended_by reply)
          → IsOverWhereSettled next.exchange reply → IsUsed (cleared_in market reply)
      by (Opened account) covered greatest none kept over = same_kept (ap (kept_in market) kept)
      by (Deposited account balance) covered greatest none kept over = same_kept (ap (kept_in market) kept)
      by (Withdrawn account balance) covered greatest none kept over = same_kept (ap (kept_in market) kept)
      by (Listed other underlyings) covered greatest none kept over = same_kept (ap (kept_in market) kept)
      by (Placed order) covered greatest none kept over = same_kept (ap (kept_in market) kept)
      by (Cancelled order) covered greatest none kept over = same_kept (ap (kept_in market) kept)
      by (Cleared number other batch outcome) covered greatest none kept over = cleared other outcome covered greatest none kept (nat_eq other market) refl
      by (Settled other lapsed payouts) covered greatest none kept over = settled other kept over (nat_eq other market) refl
      by (Balance account balance reserved) covered greatest none kept over = same_kept (ap (kept_in market) kept)
      by (Refused number field) covered greatest none kept over = same_kept (ap (kept_in market) kept)

  bounded_used : (answer : BoundedAnswer) → IsBoundedFor state line answer next → IsUsed (clear_in market (bounded answer))
  bounded_used answer is = by (nat_eq answer.market market) refl
    where
      reference : Outcome
      reference = reference_in state answer.market answer.budget

      by : (b : Bool) → nat_eq answer.market market ≡ b
          → IsUsed (if b then Some (told_clear (fraction_of answer.better.proposal.claim.surplus) (Some (fraction_of answer.better.bound))) else None)
      by true is_it =
          let here = eqb-true answer.market market is_it in
          let c = chosen reference (stop_of reference.mark) (counted_in state answer.market) answer.better is.better in
          let counted : Some c.kept ≡ Some counts.best = sym c.is_kept ∙ ap (counted_in state) here ∙ counts.counted in
          let same : c.kept ≡ counts.best = cc in
          let better = better_is state answer.market answer.budget sound is.accepted answer.better is.better in
          let charged : BoundedOutcome = bounded_as reference c.stop c.kept in
          let kept_less = subst (λ (best : Best). AtMost (claimed offer) (surplus_of best.covered)) (sym same) counts.no_less in
          let kept_more = subst (λ (best : Best). AtMost (fraction_of best.bounded.bound) bound) (sym same) counts.no_more in
          record {
            no_less = subst (λ (b : BoundedOutcome). AtMost (claimed offer) (fraction_of b.proposal.claim.surplus)) (sym c.is)
                (at_most_trans (claimed offer) (surplus_of c.kept.covered) (fraction_of charged.proposal.claim.surplus) c.kept.covered.claim.surplus.lowest.positive kept_less
                (not_below_kept reference c.stop c.kept));
            within = covered_within (as_outcome answer.better.proposal)
                (subst (λ (q : ℕ). IsCovered (batch_in state.exchange q) (as_outcome answer.better.proposal)) here better.proves.covered);
            no_more = subst (λ (b : BoundedOutcome). AtMost (fraction_of b.bound) bound) (sym c.is)
                (subst (λ (least : Frac128). AtMost (fraction_of least) bound) (sym (bounded_bound reference c.stop c.kept)) kept_more);
          }
      by false apart = other_ends answer.market apart is.kept

  taken_used : (answer : TakenAnswer) → IsTakenFor state line answer next → IsUsed (clear_in market (taken answer))
  taken_used answer is = by (nat_eq market answer.proposed.market) refl
    where
      by : (b : Bool) → nat_eq market answer.proposed.market ≡ b → Later
      by true is_it = λ same. inl (taken_better state next line answer is market (eqb-true market answer.proposed.market is_it) offer bound counts same)
      by false apart = same_kept (ap (kept_in market) is.kept ∙ others_kept answer.proposed.market market apart answer.best state.kept)

  line_used : (answer : ProposalAnswer) → IsToldFor state line answer next → IsUsed (clear_in market answer)
  line_used (replied answer) is = replied_used answer is
  line_used (bounded answer) is = bounded_used answer is
  line_used (taken answer) is = taken_used answer is
  line_used (beside number text) is = same_kept (ap (kept_in market) is.kept)

-- ---- one line, where the market is settled
-- a market that is not settled is another
not_here : (market other : ℕ) (state : ExchangeState) → IsOver market state → (IsOver other state → ⊥) → (told : ToldClear) → if_of market other told ≡ None
not_here market other state over never told = by (nat_eq other market) refl
  where
    by : (b : Bool) → nat_eq other market ≡ b → (if b then Some told else None) ≡ None
    by true is_it = absurd (never (subst (λ (q : ℕ). IsOver q state) (sym (eqb-true other market is_it)) over))
    by false apart = refl

module _ (market : ℕ) (state next : ProposingState) (line : InputLine) (over : IsOver market state.exchange) where
  -- no clear of it is told
  not_cleared : (reply : Reply) → IfClears (λ number other batch outcome. IsOver other state.exchange → ⊥) reply → cleared_in market reply ≡ None
  not_cleared (Opened account) never = refl
  not_cleared (Deposited account balance) never = refl
  not_cleared (Withdrawn account balance) never = refl
  not_cleared (Listed other underlyings) never = refl
  not_cleared (Placed order) never = refl
  not_cleared (Cancelled order) never = refl
  not_cleared (Cleared number other batch outcome) never = not_here market other state.exchange over never (told_clear (fraction_of outcome.claim.surplus) None)
  not_cleared (Settled other lapsed payouts) never = refl
  not_cleared (Balance account balance reserved) never = refl
  not_cleared (Refused number field) never = refl

  over_told : (answer : ProposalAnswer) → IsToldFor state line answer next → clear_in market answer ≡ None
  over_told (replied answer) is =
      not_cleared answer.reply
      (subst (λ (a : Answer). IfClears (λ number other batch outcome. IsOver other state.exchange → ⊥) a.reply) (sym is.reply)
      (reply_clears state.exchange (λ other outcome. IsOver other state.exchange → ⊥) (λ other budget none over. never_cleared other budget state.exchange over none) (line_of line).body))
  over_told (bounded answer) is =
      not_here market answer.market state.exchange over (λ over. never_cleared answer.market answer.budget state.exchange over is.accepted)
      (told_clear (fraction_of answer.better.proposal.claim.surplus) (Some (fraction_of answer.better.bound)))
  over_told (taken answer) is = refl
  over_told (beside number text) is = refl

  -- and it is settled after it
  over_next : (answer : ProposalAnswer) → IsToldFor state line answer next → IsOver market next.exchange
  over_next (replied answer) is = subst (IsOver market) (sym is.exchange) (reply_over market state.exchange (body_of_line line.bytes) over)
  over_next (bounded answer) is = subst (IsOver market) (sym is.exchange) (cleared_over market answer.market state.exchange answer.better.proposal.fills over)
  over_next (taken answer) is = subst (IsOver market) (sym is.exchange) over
  over_next (beside number text) is = subst (IsOver market) (sym is.exchange) over

  over_used : (offer : Proposal) (bound : Fraction) (answer : ProposalAnswer) → IsToldFor state line answer next → IsUsedOr market offer bound state next (clear_in market answer)
  over_used offer bound answer is = subst (IsUsedOr market offer bound state next) (sym (over_told answer is)) (λ same. inr (over_next answer is))

-- either way
serves_used : (market : ℕ) (offer : Proposal) (bound : Fraction) (state next : ProposingState) (line : InputLine) → IsSound state → Serves market offer bound state
    → (answer : ProposalAnswer) → IsToldFor state line answer next → IsUsedOr market offer bound state next (clear_in market answer)
serves_used market offer bound state next line sound serves answer is =
    ⊎_elim (λ (counts : Counts market offer bound state). line_used market offer bound state next line sound counts answer is)
    (λ (over : IsOver market state.exchange). over_used market state next line over offer bound answer is) serves

-- ---- all lines
-- what follows a line follows by what it clears
pub follows : (surplus bound : Fraction) (told : Option ToldClear) (First Then : Type 0) → (First → Then) → clears_or surplus bound told First → clears_or surplus bound told Then
follows surplus bound None First Then later used = later used
follows surplus bound (Some told) First Then later used = used

module _ {S : Type 0} (proposing : S → ProposingState) (step : ℕ → S → List ℕ → List ℕ × S) where
  abbrev Stays : ℕ → S → S → Type 0
  Stays market state next = batch_in (proposing next).exchange market ≡ batch_in (proposing state).exchange market

  used_later : (market : ℕ) (offer : Proposal) (bound : Fraction) (lines : List InputLine) (answers : List ProposalAnswer) (state : S) → IsSound (proposing state)
      → Serves market offer bound (proposing state) → AreToldFor proposing step state lines answers → IsUsedBy proposing step market (claimed offer) bound state lines answers
  used_later market offer bound [] answers state sound serves are = tt
  used_later market offer bound (line ∷ lines) [] state sound serves are = tt
  used_later market offer bound (line ∷ lines) (answer ∷ answers) state sound serves are =
      let next = (step line.number state line.bytes).1 in
      let after = told_sound (proposing state) (proposing next) line sound answer are.0 in
      follows (claimed offer) bound (clear_in market answer) (Stays market state next → Serves market offer bound (proposing next))
      (Stays market state next → IsUsedBy proposing step market (claimed offer) bound next lines answers)
      (λ later same. used_later market offer bound lines answers next after (later same) are.3)
      (serves_used market offer bound (proposing state) (proposing next) line sound serves answer are.0)

  taken_is_used : (state next : S) (line : InputLine) (lines : List InputLine) (answers : List ProposalAnswer) → IsSound (proposing next)
      → AreToldFor proposing step next lines answers → (answer : ProposalAnswer) → IsToldFor (proposing state) line answer (proposing next)
      → IfTaken (λ t. IsUsedBy proposing step t.proposed.market (fraction_of t.proposed.submission.proposal.claim.surplus) (fraction_of t.bound) next lines answers) answer
  taken_is_used state next line lines answers sound are (replied answer) is = tt
  taken_is_used state next line lines answers sound are (bounded answer) is = tt
  taken_is_used state next line lines answers sound are (taken answer) is =
      used_later answer.proposed.market answer.proposed.submission.proposal (fraction_of answer.bound) lines answers next sound
      (inl (taken_counts (proposing state) (proposing next) line answer is)) are
  taken_is_used state next line lines answers sound are (beside number text) is = tt

  pub uses_the_best : UsesTheBest proposing step
  uses_the_best state [] answers sound are = tt
  uses_the_best state (line ∷ lines) [] sound are = tt
  uses_the_best state (line ∷ lines) (answer ∷ answers) sound are =
      let next = (step line.number state line.bytes).1 in
      let after = told_sound (proposing state) (proposing next) line sound answer are.0 in
      (taken_is_used state next line lines answers after are.3 answer are.0, uses_the_best next lines answers after are.3)

-- an exchange that takes proposals, and no more
pub best_is_used : BestIsUsed
best_is_used = uses_the_best (λ state. state) proposing_line
