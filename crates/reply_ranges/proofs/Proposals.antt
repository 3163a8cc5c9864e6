-- The lines of proposals, of what is read, and of clears are sound.
use Rattle.std.proofs.Common.{◌≡◌, ℕ, ◌+◌, List, Bool, true, false, ◌&&◌, nat_eq, drop, if◌then◌else◌, Option, Some, None, Result, Ok, Err, IfOk, refl, sym, ap, ◌∙◌, subst, arith}
use Rattle.std.specs.Prelude.{IfSome}
use Rattle.std.specs.List.{All}
use Rattle.std.specs.Option.{option_map_or}
use Rattle.std.proofs.lemmas.Bool.{and_parts, eqb-true}
use Rattle.std.proofs.lemmas.Int.{ints}
use Rattle.std.proofs.lemmas.List.Elements.{All-append, All-filter, filter_passes, recursion_from_All}
use Rattle.auction_phases.specs.Phases.{ended_in}
use Rattle.cash_ledger.specs.Refusals.{account_refusals}
use Rattle.proposal_check.specs.Proposals.{bounded_verdict_of, compared, proposal_bound}
use Rattle.cert_check.specs.Events.{verdict_of}
use Rattle.clearing.proofs.Values.{fraction_is}
use Rattle.clearing.proofs.Yes.{outcomes_are_judged_yes}
use Rattle.cert_check.specs.declared.outcome.Verdict.TheVariants as judgement
use Rattle.cert_check.specs.declared.outcome.Outcome.{Outcome}
use Rattle.proposal_check.specs.declared.covers.BoundFailure.{BoundFailure as Reason}
use Rattle.command_text.specs.declared.asked.Fault.{Fault}
use Rattle.command_text.specs.declared.asked.Fault.TheVariants.{Syntax, Range}
use Rattle.command_text.specs.declared.command.Body.TheVariants as body
use Rattle.command_text.specs.declared.command.Command.TheVariants.{Clear, Settle}
use Rattle.command_text.specs.declared.requests.ProposeRequest.{ProposeRequest}
use Rattle.command_text.specs.declared.requests.Request.TheVariants as asks
use Rattle.command_text.specs.declared.requests.TryRequest.{TryRequest}
use Rattle.command_text.specs.Trades.{with_some}
use Rattle.command_text.specs.Within.{IsAccount, IsBudget, IsMarket, IsTryWithin, RequestIsWithin}
use Rattle.exact_num.specs.Fraction.{Fraction}
use Rattle.exact_num.specs.Tests.{is_lowest}
use Rattle.exact_num.proofs.Tested.{same_passes}
use Rattle.exchange_core.specs.declared.refusal.Refusal.{Refusal}
use Rattle.exchange_core.specs.declared.refusal.Refusal.TheVariants as refusal
use Rattle.exchange_core.specs.ExchangeState.{ExchangeState}
use Rattle.exchange_core.specs.Held.{is_held_by, positions_of}
use Rattle.exchange_core.specs.Kept.{IsPositionKept}
use Rattle.exchange_core.specs.Refusals.{by_book, by_ledger, refusal_of}
use Rattle.exchange_core.specs.Step.{batch_in, clear_effect, refusal_effect}
use Rattle.exchange_core.proofs.FirstRefusal.{batch_none, live_none}
use Rattle.form.specs.declared.orders.Batch.{Batch}
use Rattle.frac.specs.Range.{limit}
use Rattle.frac.specs.Value.{fraction_of}
use Rattle.frac.specs.ValueOf.{has_128_bits, value_of}
use Rattle.order_book.specs.Book.{batch_of, info_in, market_of}
use Rattle.order_book.specs.Markets.{MarketState}
use Rattle.order_book.specs.Numbers.{numbers_of}
use Rattle.order_book.specs.Refusals.{live_refusals}
use Rattle.order_book.proofs.Accepting.{finishable, listing_live}
use Rattle.lists.specs.Refusals.{first_of}
use Rattle.settlement.specs.declared.position.Position.{Position}
use Rattle.reply_print.specs.Within.{IsLine}
use Rattle.reply_print.specs.Within as reply
use Rattle.proposal_text.specs.declared.replies.BoundedOutcome.{BoundedOutcome}
use Rattle.proposal_text.specs.declared.replies.StopReason.{StopReason}
use Rattle.proposal_text.specs.declared.replies.FailureKind.TheVariants as failed
use Rattle.proposal_text.specs.declared.replies.ProposalReply.TheVariants as told
use Rattle.proposal_text.specs.declared.replies.ServedReply.{ServedReply}
use Rattle.proposal_text.specs.declared.replies.ServedReply.TheVariants.{Plain, Told}
use Rattle.proposal_text.specs.declared.submissions.Submission.{Submission}
use Rattle.proposal_text.specs.Submissions.{IsTextOf, submission_of}
use Rattle.proposal_text.specs.Within.{AreRising, IsPositionWithin, IsProposalWithin}
use Rattle.proposal_text.proofs.ReadExactly.{some_text}
use Rattle.proposals.specs.Best.{are_same_orders}
use Rattle.proposals.specs.Laws.{as_proposal}
use Rattle.proposals.specs.declared.best.Best.{Best}
use Rattle.proposal_lines.specs.Clears.{better_in, bounded_effect, charge_effect, clear_reply, cleared_by, reference_in}
use Rattle.proposal_lines.specs.KeptByMarket.{best_in, bounded_as, bounded_in, kept_in, stop_of}
use Rattle.proposal_lines.specs.Laws.{IsClearedAs, IsSound}
use Rattle.proposal_lines.specs.Output.{settlement_reply}
use Rattle.proposal_lines.specs.Proposed.{for_market, judged_effect, kept_by, offered, proposed_by, proposed_of, proposed_reply, stale_effect, unproved_effect}
use Rattle.proposal_lines.specs.ProposingState.{ProposingState}
use Rattle.proposal_lines.specs.Reads.{book_refusals, book_reply, positions_refusals, positions_reply, refused_by, refused_by_fault}
use Rattle.proposal_lines.specs.Trials.{trial_of, trial_reply}
use Rattle.proposal_lines.specs.declared.proposed.Proposed.{Proposed}
use Rattle.proposal_lines.proofs.Clearing.{batch_is, better_bound, bounded_has, bounded_units, chosen, clears_are_proved}
use Rattle.proposal_lines.proofs.Kept.{ended_has, offered_proved, without_has}
use Rattle.quote_lines.specs.Refusals.{info_refusals, quote_refusals}
use Rattle.quote_lines.specs.Replies.{tried_for}
use Rattle.quote_lines.proofs.Thresholds.{tried_orders_are_filled}
use Rattle.reply_ranges.proofs.Outcomes.{outcomes_are_ranged}
use Rattle.reply_ranges.proofs.Refusals.{IsOne, IsTold, of_book, of_ledger, refusal_is_told}
use Rattle.reply_ranges.proofs.States.{IsNumbered, IsStanding, batch_is_within, batch_ranged, live_ranged}
use Rattle.reply_ranges.proofs.Fields.{IsPlaced, IsPlacedIn}
use Rattle.reply_ranges.proofs.Kept.{AreKeptWithin, IsBestWithin, best_within, offer_within, told_in_order}
use Rattle.reply_ranges.proofs.Others.{first_served, info_told, one_told, refusal_served, run_served, unless_served}
use Rattle.reply_ranges.proofs.Texts.{IsServedReply, proposal_text}

-- ---- what is proposed is within its ranges
abbrev pub IsProposedWithin : Proposed → Type 0
IsProposedWithin proposed = IsMarket proposed.market × IsProposalWithin proposed.submission.proposal

abbrev pub IsProposedIn : Result Proposed Fault → Type 0
IsProposedIn said = IfOk said IsProposedWithin × IsPlacedIn said

for_market_in : (text : List ℕ) (market : Option ℕ) (value : Option Submission) → IfSome value (IsTextOf text) → IfSome market IsMarket → IsProposedIn (with_some value (for_market market))
for_market_in text market None h listed = (tt, tt)
for_market_in text None (Some submission) h listed = (tt, (omega arith, omega arith))
for_market_in text (Some market) (Some submission) h listed = ((listed, h.0.0), tt)

pub proposed_in : (line : List ℕ) (request : ProposeRequest) → IfSome request.market IsMarket → IsProposedIn (proposed_of line request)
proposed_in line request listed =
    let text = drop request.from line in for_market_in text request.market (submission_of text) (some_text text) listed

-- ---- positions
position_within : (state : ExchangeState) (account market : ℕ) (p : Position) → IsNumbered p → IsPositionKept state.accounts state.book.markets p → is_held_by account market p ≡ true
    → IsPositionWithin account market p
position_within state account market p numbered kept own =
    let parts = and_parts (nat_eq p.account account) (nat_eq p.market market) own in
    record {
      account_is = eqb-true p.account account parts.0;
      market_is = eqb-true p.market market parts.1;
      batch = numbered.0;
      order = numbered.1;
      listed = kept.options;
      filled = let above = kept.filled in omega (arith, ints, above);
    }

-- ---- a bounded outcome
-- a bound is the same as itself
same_bound : (B : Fraction) → compared (Ok B) B ≡ judgement.Yes
same_bound B = rw (same_passes B B refl) refl

-- what is kept and takes the place of the outcome of its batch
record IsKeptBetter (batch : Batch) (outcome : Outcome) (better : BoundedOutcome) : Type 0 where
  yes : bounded_verdict_of limit batch better.proposal (fraction_of better.bound) ≡ judgement.Yes
  within : IsProposalWithin better.proposal
  units : better.units ≡ outcome.units

module _ (state : ProposingState) (sound : IsSound state) (are : AreKeptWithin state.kept) (market : ℕ) (m : MarketState) (found : market_of state.exchange.book market ≡ Some m) where
  abbrev batch : Batch
  batch = batch_in state.exchange market

  best_kept : (best : Best) → best_in market (numbers_of batch.orders) state.kept ≡ Some best → IsProposalWithin (as_proposal best)
  best_kept best e = subst (λ o. IfSome o (λ best. IsProposalWithin (as_proposal best))) e (best_within market (numbers_of batch.orders) state.kept are)

  -- the match is within its ranges, and so is what is kept
  chosen_within : (outcome : Outcome) (stop : StopReason) (kept : Best) → IsProposalWithin (as_proposal kept) → IsProposalWithin (bounded_as outcome stop kept).proposal
  chosen_within outcome stop kept within = bounded_has outcome stop kept (λ b. IsProposalWithin b.proposal) (λ is. (tt, within.1)) (λ is. within)

  kept_better : (outcome : Outcome) → verdict_of limit batch outcome ≡ judgement.Yes → (better : BoundedOutcome) → bounded_in market (numbers_of batch.orders) outcome state.kept ≡ Some better
      → IsKeptBetter batch outcome better
  kept_better outcome judged better e =
      let c = chosen outcome (stop_of outcome.mark) (best_in market (numbers_of batch.orders) state.kept) better e in
      let bound = better_bound state.exchange.book market m found state.kept sound.proved batch (batch_is state market m found) outcome judged better e in
      record {
        yes = ap (λ r. compared r (fraction_of better.bound)) bound ∙ same_bound (fraction_of better.bound);
        within = subst (λ (b : BoundedOutcome). IsProposalWithin b.proposal) (sym c.is) (chosen_within outcome c.stop c.kept (best_kept c.kept c.is_kept));
        units = ap (λ (b : BoundedOutcome). b.units) c.is ∙ bounded_units outcome c.stop c.kept;
      }

-- ---- the lines
module _ (number : ℕ) (is_line : IsLine number) (state : ProposingState) (stands : IsStanding number state.exchange) (sound : IsSound state)
    (are : AreKeptWithin state.kept) where
  abbrev exchange : ExchangeState
  exchange = state.exchange

  refused_served : (first : Refusal) → IsTold first → IsServedReply number (refused_by first)
  refused_served = refusal_served number is_line exchange stands

  -- the live orders of a market that is there
  live_within : (market : ℕ) → first_of (by_book (live_refusals exchange.book market)) ≡ None
      → reply.IsBatchWithin (batch_in exchange market) × AreRising (batch_in exchange market).orders
  live_within market none =
      let live = live_ranged number exchange stands market none in
      (batch_is_within (batch_in exchange market) live, live.within.ids_rise)

  held_all : (account market : ℕ) → All (IsPositionWithin account market) (positions_of account market exchange.positions)
  held_all account market =
      let own = is_held_by account market in
      let numbered = All-filter own IsNumbered exchange.positions stands.ranged.positions in
      let kept = All-filter own (IsPositionKept exchange.accounts exchange.book.markets) exchange.positions stands.running.kept.positions in
      λ k d inside. position_within exchange account market _ (numbered k d inside) (kept k d inside) (filter_passes own exchange.positions k d inside)

  -- what is read
  pub book_served : (market : ℕ) → IsMarket market → IsServedReply number (book_reply exchange market)
  book_served market listed =
      unless_served number is_line exchange stands (book_refusals exchange market) (Told (told.Book market (batch_in exchange market))) (of_book (live_refusals exchange.book market))
      (λ none. let live = live_within market none in proposal_text number (told.Book market (batch_in exchange market)) (is_line, (listed, live.0, live.1)) tt)

  pub positions_served : (account market : ℕ) → IsAccount account → IsMarket market → IsServedReply number (positions_reply exchange account market)
  positions_served account market some listed =
      let held = positions_of account market exchange.positions in
      let own = account_refusals exchange.accounts account in
      unless_served number is_line exchange stands (positions_refusals exchange account market) (Told (told.Positions account market held))
      (All-append IsOne (book_refusals exchange market) (by_ledger own) (of_book (live_refusals exchange.book market)) (of_ledger own))
      (λ none. proposal_text number (told.Positions account market held) (is_line, (some, listed, recursion_from_All (IsPositionWithin account market) held (held_all account market))) tt)

  pub trial_served : (request : TryRequest) → IsTryWithin request → IsServedReply number (trial_reply exchange request)
  trial_served request within =
      let quote = request.quote in
      let info = info_in exchange.book quote.market in
      let tried = tried_for (batch_in exchange quote.market) request in
      unless_served number is_line exchange stands (quote_refusals exchange.book quote) (Told (told.Tried quote.market (trial_of tried)))
      (All-append IsOne (info_refusals info quote) _ (info_told info quote) (one_told _ refusal.TooMany ((omega arith, omega arith), refl)))
      (λ none.
      let filled = tried_orders_are_filled exchange request stands.running.kept within none in
      proposal_text number (told.Tried quote.market (trial_of tried)) (is_line, (within.quote.market, filled.fill.1, filled.covered.not_below_zero)) tt)

  fault_served : (fault : Fault) → IsPlaced fault → IsServedReply number (refused_by_fault fault)
  fault_served Syntax is = refused_served refusal.Syntax ((omega arith, omega arith), refl)
  fault_served (Range place) is = refused_served (refusal.Range place) ((omega arith, omega arith), is)

  -- what is proposed
  module _ (proposed : Proposed) (within : IsProposedWithin proposed) (m : MarketState) (found : market_of exchange.book proposed.market ≡ Some m) where
    abbrev bound : Result Fraction Reason
    bound = proposal_bound limit (batch_of m) proposed.submission.proposal

    abbrev AreSame : Bool → Type 0
    AreSame b = are_same_orders proposed.submission.orders (numbers_of m.live) ≡ b

    value_served : AreSame true → (B : Fraction) → bound ≡ Ok B → (b : Bool) → (is_lowest B && has_128_bits B) ≡ b
        → IsServedReply number (Told (option_map_or (kept_by state.kept proposed) (if b then Some (value_of B) else None) (unproved_effect state.kept failed.Wide)).0)
    value_served same B judged true is =
        let proves = judged ∙ ap Ok (sym (fraction_is B is)) in
        let stays = offered_proved exchange.book proposed.market m found sound.kept.orders.book proposed.submission.orders same proposed.submission.proposal (value_of B) proves state.kept sound.proved in
        let ordered = told_in_order (batch_of m) (kept_in proposed.market state.kept) proposed.submission.orders proposed.submission.proposal (value_of B) proves stays.batch stays.proved in
        proposal_text number (kept_by state.kept proposed (value_of B)).0 (is_line, (within.0, ordered)) tt
    value_served same B judged false is = proposal_text number (told.Unproved failed.Wide) (is_line, tt) tt

    judged_served : AreSame true → (r : Result Fraction Reason) → bound ≡ r → IsServedReply number (Told (judged_effect state.kept proposed r).0)
    judged_served same (Err reason) is = proposal_text number (judged_effect state.kept proposed (Err reason)).0 (is_line, tt) tt
    judged_served same (Ok B) is = value_served same B is (is_lowest B && has_128_bits B) refl

    offered_served : (batch : Batch) → batch ≡ batch_of m → IsServedReply number (Told (offered state.kept proposed batch).0)
    offered_served batch is =
        subst (λ (b : Batch). IsServedReply number (Told (offered state.kept proposed b).0)) (sym is) (by (are_same_orders proposed.submission.orders (numbers_of m.live)) refl)
      where
        by : (t : Bool) → AreSame t → IsServedReply number (Told (if t then judged_effect state.kept proposed bound else stale_effect state.kept).0)
        by true same = judged_served same bound refl
        by false same = proposal_text number told.Stale (is_line, tt) tt

  -- a sound line, and what is kept is within its ranges
  abbrev IsServedNow : ServedReply × ProposingState → Type 0
  IsServedNow now = IsServedReply number now.0 × AreKeptWithin now.1.kept

  pub proposed_served : (said : Result Proposed Fault) → IsProposedIn said → IsServedNow (proposed_reply state said)
  proposed_served (Err fault) within = (fault_served fault within.1, are)
  proposed_served (Ok proposed) within = by (first_of refusals) refl
    where
      refusals : List (Bool × Refusal)
      refusals = by_book (live_refusals exchange.book proposed.market)

      by : (r : Option Refusal) → first_of refusals ≡ r → IsServedNow (option_map_or (λ first. (refused_by first, state)) r (proposed_by state proposed))
      by (Some first) is = (first_served number is_line exchange stands refusals first (of_book (live_refusals exchange.book proposed.market)) is, are)
      by None none =
          let batch = batch_in exchange proposed.market in
          let (m, found, unsettled) = listing_live exchange.book proposed.market (live_none exchange.book proposed.market none) in
          (offered_served proposed within.0 m found batch (batch_is state proposed.market m found), offer_within state.kept are proposed within.0.1 batch)

  -- a clear
  module _ (market budget : ℕ) (listed : IsMarket market) (units : IsBudget budget) (accepted : refusal_of exchange (Clear market budget) ≡ None) where
    bounded_served : (better : BoundedOutcome) → better_in state market budget ≡ Some better → IsClearedAs state market (reference_in state market budget) (Some better)
        → IsServedNow (bounded_effect state market better)
    bounded_served better e is =
        let may = batch_none exchange.book market accepted in
        let (m, found, more, unsettled) = finishable exchange.book market may in
        let reference = reference_in state market budget in
        let batch_of_it = batch_ranged number exchange stands market may in
        let judged = outcomes_are_judged_yes (batch_in exchange market) budget batch_of_it.within in
        let kept = kept_better state sound are market m found reference judged better e in
        let few_units = (outcomes_are_ranged (batch_in exchange market) budget batch_of_it.within units.1).0 in
        let same = kept.units in (
          proposal_text number (told.Bounded (exchange.book.finished + 1) market (batch_in exchange market) better)
              (is_line, ((omega arith, omega (arith, more)), listed, batch_is_within (batch_in exchange market) batch_of_it, (omega (arith, same, few_units), kept.within)))
              (record { yes = kept.yes; covered = is.proves.covered; measured = is.proves.measured; bounds = is.proves.bounds }),
          without_has IsBestWithin market state.kept are,
        )

    -- as a run has it
    reference_served : IsServedNow (charge_effect state market (reference_in state market budget) None)
    reference_served =
        let run = run_served number is_line exchange stands (body.Command (Clear market budget)) (listed, units) tt in (
          subst (λ r. IsServedReply number (Plain (option_map_or (refusal_effect exchange) r (clear_effect exchange market budget)).0)) accepted run,
          without_has IsBestWithin market state.kept are,
        )

    charge_served : (better : Option BoundedOutcome) → better_in state market budget ≡ better → IsClearedAs state market (reference_in state market budget) better
        → IsServedNow (cleared_by state market budget better)
    charge_served None e is = reference_served
    charge_served (Some better) e is = bounded_served better e is

  pub clear_served : (market budget : ℕ) → IsMarket market → IsBudget budget → IsServedNow (clear_reply state market budget)
  clear_served market budget listed units = by (refusal_of exchange (Clear market budget)) refl
    where
      by : (r : Option Refusal) → refusal_of exchange (Clear market budget) ≡ r
          → IsServedNow (option_map_or (λ first. (refused_by first, state)) r (cleared_by state market budget (better_in state market budget)))
      by (Some first) is = (refused_served first (refusal_is_told exchange (Clear market budget) first is), are)
      by None accepted = charge_served market budget listed units accepted (better_in state market budget) refl (clears_are_proved state market budget sound accepted)

  -- a settlement
  pub settle_served : (market count : ℕ) (prices : List ℕ) → RequestIsWithin (asks.Command (Settle market count prices)) → IsServedNow (settlement_reply state market count prices)
  settle_served market count prices within = (
    run_served number is_line exchange stands (body.Command (Settle market count prices)) within tt,
    ended_has IsBestWithin (ended_in exchange (Settle market count prices)) state.kept are,
  )
