-- A proposal lowers the surplus of no clear, for as long as the orders of its market stay.
use Rattle.std.proofs.Common.{◌≡◌, ℕ, List, [], ◌∷◌, Bool, true, false, nat_eq, if◌then◌else◌, Option, Some, None, Result, Ok, Err, refl, sym, ap, ◌∙◌, subst}
use Rattle.std.specs.Option.{option_map_or}
use Rattle.std.proofs.lemmas.Bool.{eqb-true}
use Rattle.arithmetic.proofs.Tests.{nat_eq-turned}
use Rattle.auction_phases.specs.Phases.{ended_in}
use Rattle.proposal_lines.specs.AllKinds.{said_reply}
use Rattle.proposal_check.specs.Proposals.{proposal_bound}
use Rattle.cert_check.specs.declared.outcome.Outcome.{Outcome}
use Rattle.proposal_check.specs.declared.covers.BoundFailure.{BoundFailure as Reason}
use Rattle.command_text.specs.declared.asked.Fault.{Fault}
use Rattle.command_text.specs.declared.command.Command.TheVariants.{Clear, Settle}
use Rattle.command_text.specs.declared.requests.Request.{Request}
use Rattle.command_text.specs.declared.requests.Request.TheVariants as asks
use Rattle.command_text.specs.declared.words.TheConstants.{SERVED}
use Rattle.command_text.specs.Commands.{body_of_line}
use Rattle.command_text.specs.Said.{said_in}
use Rattle.command_text.proofs.SaidByWords.{command_to_run}
use Rattle.exact_num.specs.Fraction.{AtMost, Fraction}
use Rattle.exchange_core.specs.declared.refusal.Refusal.{Refusal}
use Rattle.exchange_core.specs.ExchangeState.{ExchangeState}
use Rattle.exchange_core.specs.Refusals.{by_book, refusal_of}
use Rattle.exchange_core.specs.Step.{batch_in, cleared_with, step}
use Rattle.exchange_lines.specs.LineSteps.{InputLine}
use Rattle.form.specs.declared.orders.Batch.{Batch}
use Rattle.frac.specs.Range.{limit}
use Rattle.frac.specs.ValueOf.{value_from}
use Rattle.frac.specs.declared.frac128.Frac128.{Frac128}
use Rattle.order_book.specs.Numbers.{numbers_of}
use Rattle.order_book.specs.Refusals.{live_refusals}
use Rattle.proposal_text.specs.declared.replies.FailureKind.TheVariants as failed
use Rattle.proposal_text.specs.declared.replies.BoundedOutcome.{BoundedOutcome}
use Rattle.proposals.specs.Best.{after_offer, are_same_orders, best_for, surplus_of}
use Rattle.proposals.specs.declared.best.Best.{Best}
use Rattle.lists.specs.Refusals.{first_of}
use Rattle.proposal_lines.specs.Clears.{better_in, clear_reply, cleared_by, reference_in}
use Rattle.proposal_lines.specs.KeptByMarket.{KeptProposals, after_end, best_in, kept_in, stop_of, with_kept, without_kept}
use Rattle.proposal_lines.specs.LaterClears.{IsNoClearOf, IsUnharmed, LeaveOrders, LowersNothing, ProposalsLowerNothing}
use Rattle.proposal_lines.specs.Laws.{cleared_surplus}
use Rattle.proposal_lines.specs.Output.{other_reply, proposing_line, proposing_reply, settlement_reply}
use Rattle.proposal_lines.specs.Answers.{state_by}
use Rattle.proposal_lines.specs.Proposed.{after_proposed, judged_effect, kept_by, offered, proposed_by, proposed_of, proposed_reply, stale_effect, unproved_effect}
use Rattle.proposal_lines.specs.ProposingState.{ProposingState, state_of}
use Rattle.proposal_lines.specs.Reads.{refused_by}
use Rattle.proposal_lines.specs.declared.proposed.Proposed.{Proposed}
use Rattle.proposal_text.specs.declared.replies.ServedReply.{ServedReply}
use Rattle.proposal_lines.proofs.Kept.{same_numbers}
use Rattle.proposal_lines.proofs.SaidKinds.{by_kind}
use Rattle.proposal_lines.proofs.Lowering.{IsNoLess, after_counts, after_no_less, after_no_worse, as_much, charged_no_less}
use Rattle.proposal_lines.proofs.ByMarket.{none_left, others_kept, others_removed, own_counts, own_kept, removed_in_others, with_in_others}
use Rattle.proposal_lines.proofs.Clearing.{bounded_where}

abbrev pub live_in : ExchangeState → ℕ → List ℕ
live_in exchange market = numbers_of (batch_in exchange market).orders

-- what is kept for other markets is the same, and what counts for this one is no less
pub record IsNoWorseFor (market : ℕ) (exchange : ExchangeState) (one other : KeptProposals) : Type 0 where
  pub others : without_kept market other ≡ without_kept market one
  pub counted : IsNoLess (best_in market (live_in exchange market) one) (best_in market (live_in exchange market) other)

kept_alike : (market : ℕ) (one other : KeptProposals) → without_kept market other ≡ without_kept market one → (q : ℕ) → nat_eq q market ≡ false → kept_in q other ≡ kept_in q one
kept_alike market one other others q apart = sym (others_removed market q apart other) ∙ ap (kept_in q) others ∙ others_removed market q apart one

pub record IsNoWorse (market : ℕ) (one other : ProposingState) : Type 0 where
  pub exchange : other.exchange ≡ one.exchange
  pub kept : IsNoWorseFor market one.exchange one.kept other.kept

-- ---- a clear tells no lower surplus
module _ (market : ℕ) (exchange : ExchangeState) (one other : KeptProposals) (no_worse : IsNoWorseFor market exchange one other) (q budget : ℕ) where
  abbrev reference : Outcome
  reference = reference_in (state_of exchange one) q budget

  counts_no_less : IsNoLess (best_in q (live_in exchange q) one) (best_in q (live_in exchange q) other)
  counts_no_less = by (nat_eq q market) refl
    where
      by : (b : Bool) → nat_eq q market ≡ b → IsNoLess (best_in q (live_in exchange q) one) (best_in q (live_in exchange q) other)
      by true is = subst (λ q. IsNoLess (best_in q (live_in exchange q) one) (best_in q (live_in exchange q) other)) (sym (eqb-true q market is)) no_worse.counted
      by false is =
          subst (λ k. IsNoLess (best_in q (live_in exchange q) one) (best_for k (live_in exchange q))) (sym (kept_alike market one other no_worse.others q is)) (as_much (best_in q (live_in exchange q) one))

  clears_no_less : AtMost (cleared_surplus (state_of exchange one) q budget) (cleared_surplus (state_of exchange other) q budget)
  clears_no_less = charged_no_less reference (stop_of reference.mark) (best_in q (live_in exchange q) one) (best_in q (live_in exchange q) other) counts_no_less

-- ---- a proposal
module _ (exchange : ExchangeState) (proposed : Proposed) (bound : Frac128) where
  abbrev orders : List ℕ
  orders = proposed.submission.orders

  abbrev taken_in : KeptProposals → KeptProposals
  taken_in kept = with_kept proposed.market (after_proposed kept proposed bound) kept

  -- it is kept for its market
  taken_counts : orders ≡ live_in exchange proposed.market → (kept : KeptProposals)
      → best_in proposed.market (live_in exchange proposed.market) (taken_in kept) ≡ Some (after_proposed kept proposed bound)
  taken_counts same kept =
      let best = after_proposed kept proposed bound in
      ap (λ k. best_for k (live_in exchange proposed.market)) (own_counts proposed.market best kept)
      ∙ subst (λ orders. best_for (Some best) orders ≡ Some best) same (after_counts orders proposed.submission.proposal bound (kept_in proposed.market kept))

  -- and changes nothing of another
  others_stay : (q : ℕ) → nat_eq q proposed.market ≡ false → (kept : KeptProposals) → kept_in q (taken_in kept) ≡ kept_in q kept
  others_stay q apart kept = others_kept proposed.market q apart (after_proposed kept proposed bound) kept

  -- against what was kept
  taken_no_worse : orders ≡ live_in exchange proposed.market → (kept : KeptProposals) → IsNoWorseFor proposed.market exchange kept (taken_in kept)
  taken_no_worse same kept = record {
    others = own_kept proposed.market (after_proposed kept proposed bound) kept;
    counted =
        subst (IsNoLess (best_in proposed.market (live_in exchange proposed.market) kept)) (sym (taken_counts same kept))
        (subst (λ orders. IsNoLess (best_for (kept_in proposed.market kept) orders) (Some (after_proposed kept proposed bound))) same
        (after_no_worse orders proposed.submission.proposal bound (kept_in proposed.market kept)));
  }

  -- taken in by both
  taken_both : orders ≡ live_in exchange proposed.market → (market : ℕ) (one other : KeptProposals) → IsNoWorseFor market exchange one other
      → IsNoWorseFor market exchange (taken_in one) (taken_in other)
  taken_both same market one other no_worse = by (nat_eq market proposed.market) refl
    where
      best : KeptProposals → Best
      best kept = after_proposed kept proposed bound

      others_apart : nat_eq proposed.market market ≡ false → without_kept market (taken_in other) ≡ without_kept market (taken_in one)
      others_apart apart =
          let same_best : best other ≡ best one =
          ap (λ k. after_offer k orders proposed.submission.proposal bound) (kept_alike market one other no_worse.others proposed.market apart) in
          with_in_others market proposed.market apart (best other) other
          ∙ ap (λ b. with_kept proposed.market b (without_kept market other)) same_best ∙ ap (with_kept proposed.market (best one)) no_worse.others
          ∙ sym (with_in_others market proposed.market apart (best one) one)

      others_here : market ≡ proposed.market → without_kept proposed.market (taken_in other) ≡ without_kept proposed.market (taken_in one)
      others_here at =
          own_kept proposed.market (best other) other ∙ subst (λ q. without_kept q other ≡ without_kept q one) at no_worse.others
          ∙ sym (own_kept proposed.market (best one) one)

      Counts : ℕ → Type 0
      Counts q = IsNoLess (best_in q (live_in exchange q) (taken_in one)) (best_in q (live_in exchange q) (taken_in other))

      for_market : market ≡ proposed.market → Counts proposed.market
      for_market at =
          let before : IsNoLess (best_in proposed.market (live_in exchange proposed.market) one) (best_in proposed.market (live_in exchange proposed.market) other) =
          subst (λ q. IsNoLess (best_in q (live_in exchange q) one) (best_in q (live_in exchange q) other)) at no_worse.counted in
          let after : AtMost (surplus_of (after_proposed one proposed bound).covered) (surplus_of (after_proposed other proposed bound).covered) =
          after_no_less orders proposed.submission.proposal bound (kept_in proposed.market one) (kept_in proposed.market other)
          (subst (λ orders. IsNoLess (best_for (kept_in proposed.market one) orders) (best_for (kept_in proposed.market other) orders)) (sym same) before) in
          subst (λ b. IsNoLess b (best_in proposed.market (live_in exchange proposed.market) (taken_in other))) (sym (taken_counts same one))
          (subst (IsNoLess (Some (after_proposed one proposed bound))) (sym (taken_counts same other)) after)

      by : (b : Bool) → nat_eq market proposed.market ≡ b → IsNoWorseFor market exchange (taken_in one) (taken_in other)
      by true at =
          let e = eqb-true market proposed.market at in
          record {
            others = subst (λ q. without_kept q (taken_in other) ≡ without_kept q (taken_in one)) (sym e) (others_here e);
            counted = subst Counts (sym e) (for_market e);
          }
      by false at = record {
        others = others_apart (nat_eq-turned market proposed.market false at);
        counted =
            subst (λ k. IsNoLess (best_for k (live_in exchange market)) (best_in market (live_in exchange market) (taken_in other))) (sym (others_stay market at one))
            (subst (λ k. IsNoLess (best_in market (live_in exchange market) one) (best_for k (live_in exchange market))) (sym (others_stay market at other)) no_worse.counted);
      }

-- ---- one proposal, without it and with it
module _ (exchange : ExchangeState) (proposed : Proposed) where
  abbrev batch : Batch
  batch = batch_in exchange proposed.market

  abbrev bound_of : Result Fraction Reason
  bound_of = proposal_bound limit batch proposed.submission.proposal

  abbrev are_live : Bool
  are_live = are_same_orders proposed.submission.orders (numbers_of batch.orders)

  are_live_orders : are_live ≡ true → proposed.submission.orders ≡ live_in exchange proposed.market
  are_live_orders same = same_numbers proposed.submission.orders (numbers_of batch.orders) same

  module _ (kept : KeptProposals) where
    abbrev Taken : KeptProposals → Type 0
    Taken after = IsNoWorseFor proposed.market exchange kept after

    stays : Taken kept
    stays = record { others = refl; counted = as_much (best_in proposed.market (live_in exchange proposed.market) kept) }

    by_value : are_live ≡ true → (bound : Option Frac128) → Taken (option_map_or (kept_by kept proposed) bound (unproved_effect kept failed.Wide)).1
    by_value same None = stays
    by_value same (Some bound) = taken_no_worse exchange proposed bound (are_live_orders same) kept

    by_bound : are_live ≡ true → (bound : Result Fraction Reason) → Taken (judged_effect kept proposed bound).1
    by_bound same (Err reason) = stays
    by_bound same (Ok B) = by_value same (value_from B)

    offered_no_worse : Taken (offered kept proposed batch).1
    offered_no_worse = by are_live refl
      where
        by : (t : Bool) → are_live ≡ t → Taken (if t then judged_effect kept proposed bound_of else stale_effect kept).1
        by true same = by_bound same bound_of
        by false same = stays

  -- ---- in both
  module _ (market : ℕ) (one other : KeptProposals) (no_worse : IsNoWorseFor market exchange one other) where
    abbrev BothTaken : (KeptProposals → KeptProposals) → Type 0
    BothTaken after = IsNoWorseFor market exchange (after one) (after other)

    both_by_value : are_live ≡ true → (bound : Option Frac128) → BothTaken (λ kept. (option_map_or (kept_by kept proposed) bound (unproved_effect kept failed.Wide)).1)
    both_by_value same None = no_worse
    both_by_value same (Some bound) = taken_both exchange proposed bound (are_live_orders same) market one other no_worse

    both_by_bound : are_live ≡ true → (bound : Result Fraction Reason) → BothTaken (λ kept. (judged_effect kept proposed bound).1)
    both_by_bound same (Err reason) = no_worse
    both_by_bound same (Ok B) = both_by_value same (value_from B)

    offered_both : BothTaken (λ kept. (offered kept proposed batch).1)
    offered_both = by are_live refl
      where
        by : (t : Bool) → are_live ≡ t → BothTaken (λ kept. (if t then judged_effect kept proposed bound_of else stale_effect kept).1)
        by true same = both_by_bound same bound_of
        by false same = no_worse

-- ---- lines
module _ (market : ℕ) (exchange : ExchangeState) (one other : KeptProposals) (no_worse : IsNoWorseFor market exchange one other) where
  pub unchanged : IsNoWorse market (state_of exchange one) (state_of exchange other)
  unchanged = record { exchange = refl; kept = no_worse }

  proposed_both : (said : Result Proposed Fault) → IsNoWorse market (proposed_reply (state_of exchange one) said).1 (proposed_reply (state_of exchange other) said).1
  proposed_both (Err fault) = unchanged
  proposed_both (Ok proposed) =
      elim (first_of (by_book (live_refusals exchange.book proposed.market))) as (λ (r : Option Refusal).
      IsNoWorse market (option_map_or (λ first. (refused_by first, state_of exchange one)) r (proposed_by (state_of exchange one) proposed)).1
      (option_map_or (λ first. (refused_by first, state_of exchange other)) r (proposed_by (state_of exchange other) proposed)).1) [
        | None ↦ record { exchange = refl; kept = offered_both exchange proposed market one other no_worse }
        | Some first ↦ unchanged
      ]

  -- ---- what leaves the orders of the market as they are
  abbrev OrdersStay : ExchangeState → Type 0
  OrdersStay after = batch_in after market ≡ batch_in exchange market

  -- and what is kept for it
  pub left_both : (after : ExchangeState) → OrdersStay after → (left : KeptProposals → KeptProposals) → without_kept market (left other) ≡ without_kept market (left one)
      → ((kept : KeptProposals) → kept_in market (left kept) ≡ kept_in market kept) → IsNoWorse market (state_of after (left one)) (state_of after (left other))
  left_both after stay left others here = record {
    exchange = refl;
    kept = record {
      others = others;
      counted =
          subst (λ (b : Batch). IsNoLess (best_in market (numbers_of b.orders) (left one)) (best_in market (numbers_of b.orders) (left other))) (sym stay)
          (subst (λ k. IsNoLess (best_for k (live_in exchange market)) (best_in market (live_in exchange market) (left other))) (sym (here one))
          (subst (λ k. IsNoLess (best_in market (live_in exchange market) one) (best_for k (live_in exchange market))) (sym (here other)) no_worse.counted));
    };
  }

  -- what is kept for it is let go of
  own_ended : (after : ExchangeState) → IsNoWorse market (state_of after (without_kept market one)) (state_of after (without_kept market other))
  own_ended after = record {
    exchange = refl;
    kept = record {
      others = ap (without_kept market) no_worse.others;
      counted = subst (λ k. IsNoLess (best_for k (live_in after market)) (best_in market (live_in after market) (without_kept market other))) (sym (none_left market one)) tt;
    };
  }

  -- or what is kept for another
  other_ended : (after : ExchangeState) → OrdersStay after → (ended : ℕ) → nat_eq ended market ≡ false
      → IsNoWorse market (state_of after (without_kept ended one)) (state_of after (without_kept ended other))
  other_ended after stay ended apart =
      left_both after stay (without_kept ended)
      (removed_in_others market ended apart other ∙ ap (without_kept ended) no_worse.others ∙ sym (removed_in_others market ended apart one))
      (others_removed ended market (nat_eq-turned ended market false apart))

  ended_both : (after : ExchangeState) → OrdersStay after → (ended : Option ℕ) → IsNoWorse market (state_of after (after_end one ended)) (state_of after (after_end other ended))
  ended_both after stay None = left_both after stay (λ kept. kept) no_worse.others (λ kept. refl)
  ended_both after stay (Some ended) = by (nat_eq ended market) refl
    where
      by : (b : Bool) → nat_eq ended market ≡ b → IsNoWorse market (state_of after (without_kept ended one)) (state_of after (without_kept ended other))
      by true own =
          subst (λ (q : ℕ). IsNoWorse market (state_of after (without_kept q one)) (state_of after (without_kept q other))) (sym (eqb-true ended market own)) (own_ended after)
      by false apart = other_ended after stay ended apart

  module _ (line : List ℕ) where
    abbrev Both : (ProposingState → ServedReply × ProposingState) → Type 0
    Both answer =
        OrdersStay (answer (state_of exchange one)).1.exchange → IsNoWorse market (answer (state_of exchange one)).1 (answer (state_of exchange other)).1

    other_both : (said : Result Request Fault) → Both (λ state. other_reply state said)
    other_both said stay = left_both (said_reply exchange said).1 stay (λ kept. kept) no_worse.others (λ kept. refl)

    -- a clear of another market
    clear_both : (cleared budget : ℕ) → nat_eq cleared market ≡ false → Both (λ state. clear_reply state cleared budget)
    clear_both cleared budget apart =
        subst (λ better. Both_by better) (sym same_better) (by (refusal_of exchange (Clear cleared budget)) (better_in (state_of exchange one) cleared budget))
      where
        By : ProposingState → Option Refusal → Option BoundedOutcome → ServedReply × ProposingState
        By state r better = option_map_or (λ first. (refused_by first, state)) r (cleared_by state cleared budget better)

        same_better : better_in (state_of exchange other) cleared budget ≡ better_in (state_of exchange one) cleared budget
        same_better =
            let outcome = reference_in (state_of exchange one) cleared budget in
            ap (λ k. bounded_where outcome (stop_of outcome.mark) (best_for k (live_in exchange cleared))) (kept_alike market one other no_worse.others cleared apart)

        Both_by : Option BoundedOutcome → Type 0
        Both_by better =
            (let r = refusal_of exchange (Clear cleared budget) in
            let first = By (state_of exchange one) r (better_in (state_of exchange one) cleared budget) in
            OrdersStay first.1.exchange → IsNoWorse market first.1 (By (state_of exchange other) r better).1)

        by : (r : Option Refusal) (better : Option BoundedOutcome) → OrdersStay (By (state_of exchange one) r better).1.exchange
            → IsNoWorse market (By (state_of exchange one) r better).1 (By (state_of exchange other) r better).1
        by (Some first) better stay = unchanged
        by None None stay = other_ended (cleared_with exchange cleared (reference_in (state_of exchange one) cleared budget).fills) stay cleared apart
        by None (Some better) stay = other_ended (cleared_with exchange cleared better.proposal.fills) stay cleared apart

    -- a settlement of any market
    settle_both : (settled count : ℕ) (prices : List ℕ) → Both (λ state. settlement_reply state settled count prices)
    settle_both settled count prices stay = ended_both (step exchange (Settle settled count prices)).1 stay (ended_in exchange (Settle settled count prices))

    -- what is no clear of the market
    abbrev ClearsNot : Result Request Fault → Type 0
    ClearsNot said = (budget : ℕ) → said ≡ Ok (asks.Command (Clear market budget)) → ⊥

    pub said_both : (said : Result Request Fault) → ClearsNot said → Both (λ state. proposing_reply state line said)
    said_both =
        by_kind (λ said. ClearsNot said → Both (λ state. proposing_reply state line said))
        (λ request none stay. proposed_both (proposed_of line request))
        (λ cleared budget none. by cleared budget (nat_eq cleared market) refl none)
        (λ settled count prices none. settle_both settled count prices)
        (λ read none stay. unchanged)
        (λ account read none stay. unchanged)
        (λ request none stay. unchanged)
        (λ said other none.
        let same : (λ (state : ProposingState). other_reply state said) ≡ (λ (state : ProposingState). proposing_reply state line said) =
        λ i state. sym (other.served state line) i in
        subst Both same (other_both said))
      where
        by : (cleared budget : ℕ) (b : Bool) → nat_eq cleared market ≡ b → ClearsNot (Ok (asks.Command (Clear cleared budget)))
            → Both (λ state. clear_reply state cleared budget)
        by cleared budget true own none = absurd (none budget (ap (λ (q : ℕ). Ok (asks.Command (Clear q budget))) (eqb-true cleared market own)))
        by cleared budget false apart none = clear_both cleared budget apart

    pub line_both : IsNoClearOf market (body_of_line line) → Both (λ state. proposing_reply state line (said_in SERVED line))
    line_both none = said_both (said_in SERVED line) (λ budget is. none budget (command_to_run SERVED line (Clear market budget) is))

-- a state with the exchange of another
with_exchange : (market : ℕ) (one other : ProposingState) → IsNoWorse market one other → other ≡ state_of one.exchange other.kept
with_exchange market one other no_worse = ap (λ e. state_of e other.kept) no_worse.exchange

-- ---- a proposal
no_worse_unharmed : (market : ℕ) (one other : ProposingState) → IsNoWorse market one other → IsUnharmed one other
no_worse_unharmed market one other no_worse = record {
  exchange = no_worse.exchange;
  surplus = λ q budget.
      subst (λ (s : ProposingState). AtMost (cleared_surplus one q budget) (cleared_surplus s q budget)) (sym (with_exchange market one other no_worse))
      (clears_no_less market one.exchange one.kept other.kept no_worse.kept q budget);
}

proposed_no_worse : (state : ProposingState) (proposed : Proposed) → IsNoWorse proposed.market state (proposed_reply state (Ok proposed)).1
proposed_no_worse state proposed =
    elim (first_of (by_book (live_refusals state.exchange.book proposed.market))) as (λ (r : Option Refusal).
    IsNoWorse proposed.market state (option_map_or (λ first. (refused_by first, state)) r (proposed_by state proposed)).1) [
      | None ↦ record { exchange = refl; kept = offered_no_worse state.exchange proposed state.kept }
      | Some first ↦ record { exchange = refl; kept = stays state.exchange proposed state.kept }
    ]

-- ---- states in which an exchange stands that takes proposals
module _ {S : Type 0} (proposing : S → ProposingState) (placing : S → ProposingState → S) where
  -- two differ by what is kept alone, and it is no worse
  pub record IsNoWorseIn (market : ℕ) (one other : S) : Type 0 where
    pub placed : other ≡ placing one (proposing other)
    pub no_worse : IsNoWorse market (proposing one) (proposing other)

  -- the state with this kept in place of what is
  abbrev pub keeping : S → KeptProposals → S
  keeping state kept = placing state (state_of (proposing state).exchange kept)

  as_kept : (market : ℕ) (one other : S) → IsNoWorseIn market one other → other ≡ keeping one (proposing other).kept
  as_kept market one other good = good.placed ∙ ap (placing one) (with_exchange market (proposing one) (proposing other) good.no_worse)

-- ---- a proposal and then such lines, by a way of answering whose steps do not look at what is kept
module _ {S : Type 0} (proposing : S → ProposingState) (step : ℕ → S → List ℕ → List ℕ × S) (placing : S → ProposingState → S) where
  -- so they do after a line
  abbrev pub StepsAlike : Type 0
  StepsAlike =
      (market : ℕ) (line : InputLine) (state : S) (kept : KeptProposals) → IsNoWorseFor market (proposing state).exchange (proposing state).kept kept
      → IsNoClearOf market (body_of_line line.bytes)
      → batch_in (proposing (step line.number state line.bytes).1).exchange market ≡ batch_in (proposing state).exchange market
      → IsNoWorseIn proposing placing market (step line.number state line.bytes).1 (step line.number (keeping proposing placing state kept) line.bytes).1

  module _ (alike : StepsAlike) where
    lines_good : (market : ℕ) (lines : List InputLine) (one other : S) → IsNoWorseIn proposing placing market one other → LeaveOrders proposing step market one lines
        → IsNoWorseIn proposing placing market (state_by step one lines) (state_by step other lines)
    lines_good market [] one other good leave = good
    lines_good market (line ∷ lines) one other good leave =
        let next : S → S = λ state. (step line.number state line.bytes).1 in
        lines_good market lines (next one) (next other)
        (subst (λ (s : S). IsNoWorseIn proposing placing market (next one) (next s)) (sym (as_kept proposing placing market one other good))
        (alike market line one (proposing other).kept good.no_worse.kept leave.0 leave.1)) leave.2

    pub lowers_nothing : ((state : S) (now : ProposingState) → proposing (placing state now) ≡ now) → LowersNothing proposing step placing
    lowers_nothing placed state proposed lines leave =
        let now = (proposed_reply (proposing state) (Ok proposed)).1 in
        let same = placed state now in
        let first : IsNoWorseIn proposing placing proposed.market state (placing state now) = record {
          placed = ap (placing state) (sym same);
          no_worse = subst (IsNoWorse proposed.market (proposing state)) (sym same) (proposed_no_worse (proposing state) proposed);
        } in
        let good = lines_good proposed.market lines state (placing state now) first leave in
        no_worse_unharmed proposed.market (proposing (state_by step state lines)) (proposing (state_by step (placing state now) lines)) good.no_worse

-- an exchange that takes proposals, and no more
pub proposals_lower_nothing : ProposalsLowerNothing
proposals_lower_nothing =
    lowers_nothing (λ state. state) proposing_line (λ state now. now)
    (λ market line state kept no_worse none stay. record {
      placed = refl;
      no_worse = line_both market state.exchange state.kept kept no_worse line.bytes none stay;
    })
    (λ state now. refl)
