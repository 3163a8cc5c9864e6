-- What is written of proposals and of the replies about them is taken out again.
use Rattle.std.proofs.Common.{◌≡◌, ℕ, ◌≤◌, ◌≤ℤ◌, ℤ, pos, negsuc, int_le, List, [], ◌∷◌, length, true, false, if◌then◌else◌, Option, Some, None, option_map, option_and_then, codes, refl, sym, ap, ◌∙◌, arith, true≢false}
use Rattle.std.specs.List.{AllByRecursion}
use Rattle.std.proofs.lemmas.Bool.{and_from, le-leb}
use Rattle.std.proofs.lemmas.Int.{ints}
use Rattle.arithmetic.proofs.Tests.{int_le-true}
use Rattle.form.specs.declared.limits.TheConstants.{MAX_BUDGET, MAX_ORDER, MAX_ORDERS}
use Rattle.form.specs.declared.orders.Batch.{Batch}
use Rattle.form.specs.declared.orders.Order.{Order}
use Rattle.form.specs.Bundles.{legs_in}
use Rattle.exact_num.specs.Fraction.{IsNotBelowZero}
use Rattle.frac.specs.Range.{limit}
use Rattle.frac.specs.Value.{fraction_of}
use Rattle.frac.specs.declared.frac128.Frac128.{Frac128}
use Rattle.settlement.specs.declared.position.Position.{Position}
use Rattle.proposal_check.specs.declared.covers.Proposal.{Proposal}
use Rattle.serde_json.specs.Data.{Data, string}
use Rattle.limits.specs.declared.TheConstants.{MAX_ACCOUNT, MAX_MARKET, MAX_BATCHES}
use Rattle.reply_print.specs.BatchPieces.{natural, fraction, pieces_of, leg_piece, order_piece}
use Rattle.reply_print.specs.PieceData.{piece_data, pieces_data}
use Rattle.reply_print.specs.Within.{IsOrderNumber, IsOrderWithin}
use Rattle.reply_print.proofs.WrittenReplies.{IsLegWithin, legs_within}
use Rattle.reply_print.specs.ClearedShape.{leg_shape, order_shape}
use Rattle.reply_print.specs.Look.{items_all, is_whole}
use Rattle.reply_text.specs.BatchValues.{fraction_from, leg_from, order_from}
use Rattle.reply_text.specs.ReplyValues.{batch_from, few_orders, cleared_batch_of}
use Rattle.reply_text.specs.Taking.{items_map, list_at, take_at}
use Rattle.reply_text.proofs.FiveTests.{paired}
use Rattle.reply_text.proofs.Taken.{natural_taken, whole_taken, whole_number, fraction_taken, fraction_number, items_pass, items_taken}
use Rattle.reply_text.proofs.TakenBatches.{IsWrittenOrder, order_is_order, order_taken, leg_taken, leg_is_leg, bundle_made_of, legs_of, side_is, side_taken, len_within}
use Rattle.reply_text.proofs.TakenCleared.{batch_taken, claim_taken, cleared_batch_taken, fills_are_texts, fills_are_fractions, fills_taken}
use Rattle.reply_text.proofs.TakenReplies.{then_taken, line_taken}
use Rattle.proposal_text.specs.declared.submissions.Submission.{Submission}
use Rattle.proposal_text.specs.declared.replies.StopReason.{StopReason}
use Rattle.proposal_text.specs.declared.replies.StopReason.TheVariants as stop
use Rattle.proposal_text.specs.declared.replies.BoundedOutcome.{BoundedOutcome}
use Rattle.proposal_text.specs.declared.replies.FailureKind.{FailureKind}
use Rattle.proposal_text.specs.declared.replies.FailureKind.TheVariants as failed
use Rattle.proposal_text.specs.declared.needs.Need.{Need}
use Rattle.proposal_text.specs.declared.replies.AccountNeed.{AccountNeed}
use Rattle.proposal_text.specs.declared.replies.Bar.{Bar}
use Rattle.proposal_text.specs.declared.replies.Bar.TheVariants.{NotAllowed, NotAsked, OverQuota}
use Rattle.proposal_text.specs.declared.replies.Trial.{Trial}
use Rattle.proposal_text.specs.declared.replies.ProposalReply.{ProposalReply}
use Rattle.proposal_text.specs.declared.replies.ProposalReply.TheVariants.{Book, Positions, Proposed, Bounded, Stale, Unproved, Closed, Reopened, MarketIsClosed, MarketIsOpen, Secured, Needs, Uncovered, Quoted, Priced, Margin, Tried, Barred}
use Rattle.reply_print.specs.ReplyPieces.{position_piece}
use Rattle.proposal_text.specs.Pieces.{submission_piece, stop_word, failed_word, tried_mark, proposal_piece}
use Rattle.proposal_text.specs.ReplyShapes.{position_shape, position_numbers, is_stop, is_failed, is_tried_mark}
use Rattle.proposal_text.specs.ReplyValues.{are_in_order, filled, position_of, position_from, rising, stop_by_word, bounded_of, failed_by_word, not_negative, stopped_by_word, tried_with}
use Rattle.proposal_text.specs.CoverReading.{proved_by}
use Rattle.proposal_text.specs.Submissions.{proposal_from, order_number_from, few_numbers, submission_with, submission_shape, proposal_numbers, submission_from}
use Rattle.proposal_text.specs.Within.{AreInOrder, AreRising, IsSubmissionWithin, IsPositionWithin, IsProposalLineWithin}
use Rattle.proposal_text.proofs.ReadCovers.{proof_is, proof_numbered, proof_taken}
use Rattle.proposal_text.proofs.RisingNumbers.{are_rise}
use Rattle.proposal_text.proofs.TakenAsked.{IsTakenFrom, margin_taken, priced_taken, quoted_taken}
use Rattle.proposal_text.proofs.TakenNeeds.{held_taken, is_number, need_is, need_taken}

-- ---- proposals

-- from the parts of any value
pub parts_taken : (d : Data) (p : Proposal) → list_at (codes "fills") fraction_from d ≡ Some p.fills → take_at (codes "liability") fraction_from d ≡ Some p.claim.liability
    → take_at (codes "surplus") fraction_from d ≡ Some p.claim.surplus
    → take_at (codes "certificate") (proved_by p.fills p.claim) d ≡ Some p → proposal_from d ≡ Some p
parts_taken d p f l s c = then_taken _ _ p.claim _ (claim_taken d p.claim l s) (then_taken _ _ p.fills _ f c)

number_taken : (n : ℕ) → IsOrderNumber n → order_number_from (piece_data (natural n)) ≡ Some n
number_taken n h = natural_taken 1 MAX_ORDER n h

number_is_whole : (n : ℕ) → IsOrderNumber n → is_whole (piece_data (natural n)) ≡ true
number_is_whole n h = refl

module _ (s : Submission) (h : IsSubmissionWithin s) where
  pub submission_is : submission_shape (piece_data (submission_piece s)) ≡ true
  submission_is =
      and_from _ _
      (and_from _ _ (proof_is s.proposal.cover s.proposal.measure h.0.0 h.0.1) (and_from _ _ (fills_are_texts s.proposal.fills) refl))
      (items_pass IsOrderNumber natural is_whole number_is_whole s.orders h.2)

  pub submission_numbered : proposal_numbers (piece_data (submission_piece s)) ≡ true
  submission_numbered =
      and_from _ _ (proof_numbered s.proposal.cover s.proposal.measure h.0.0 h.0.1)
      (and_from _ _ (fills_are_fractions s.proposal.fills) (and_from _ _ (fraction_number s.proposal.claim.liability) (fraction_number s.proposal.claim.surplus)))

  numbers_taken : option_and_then few_numbers (items_map order_number_from (pieces_data (pieces_of natural s.orders))) ≡ Some s.orders
  numbers_taken = ap (option_and_then few_numbers) (items_taken IsOrderNumber natural order_number_from number_taken s.orders h.2) ∙ rw (le-leb (length s.orders) MAX_ORDERS h.1) refl

  pub submission_taken : submission_from (piece_data (submission_piece s)) ≡ Some s
  submission_taken =
      then_taken _ _ s.orders _ numbers_taken
      (ap (option_map (submission_with s.orders))
      (parts_taken (piece_data (submission_piece s)) s.proposal (fills_taken s.proposal.fills) (fraction_taken s.proposal.claim.liability) (fraction_taken s.proposal.claim.surplus)
      (proof_taken s.proposal h.0)))

-- ---- orders and positions

written_orders : (orders : List Order) → AllByRecursion IsOrderWithin orders → AllByRecursion (IsWrittenOrder false) orders
written_orders [] h = tt
written_orders (order ∷ orders) h = ((h.0, λ e. absurd (true≢false (sym e))), written_orders orders h.1)

orders_are : (orders : List Order) → AllByRecursion IsOrderWithin orders → items_all (order_shape false) (pieces_data (pieces_of (order_piece false) orders)) ≡ true
orders_are orders h = items_pass (IsWrittenOrder false) (order_piece false) (order_shape false) (order_is_order false) orders (written_orders orders h)

orders_taken : (orders : List Order) → length orders ≤ MAX_ORDERS → AllByRecursion IsOrderWithin orders
    → option_and_then few_orders (items_map (order_from false) (pieces_data (pieces_of (order_piece false) orders))) ≡ Some orders
orders_taken orders few h =
    ap (option_and_then few_orders) (items_taken (IsWrittenOrder false) (order_piece false) (order_from false) (order_taken false) orders (written_orders orders h))
    ∙ rw (le-leb (length orders) MAX_ORDERS few) refl

one_le : (z : ℤ) → pos 1 ≤ℤ z → int_le (pos 1) z ≡ true
one_le (pos n) h = le-leb 1 n (omega (arith, ints))
one_le (negsuc n) h = absurd (omega (arith, ints))

module _ (account market : ℕ) where
  position_is : (p : Position) → IsPositionWithin account market p → position_shape (piece_data (position_piece p)) ≡ true
  position_is p h =
      let legs = legs_in p.bundle in
      let are = legs_of p.bundle in
      and_from _ _
      (and_from _ _ (items_pass IsLegWithin leg_piece leg_shape leg_is_leg legs (legs_within p.bundle h.listed)) (len_within 1 4 leg_piece legs are.some are.few))
      (side_is p.side)

  position_is_numbered : (p : Position) → IsPositionWithin account market p → position_numbers (piece_data (position_piece p)) ≡ true
  position_is_numbered p h = fraction_number p.fill

  position_back : (p : Position) → IsPositionWithin account market p → position_of account market p.batch p.fill p.bundle p.order p.side ≡ p
  position_back p h = λ i. record {
    market = sym h.market_is i;
    batch = p.batch;
    order = p.order;
    account = sym h.account_is i;
    side = p.side;
    bundle = p.bundle;
    fill = p.fill;
  }

  fill_taken : (x : Frac128) → pos 1 ≤ℤ x.numerator → option_and_then filled (fraction_from (piece_data (fraction x))) ≡ Some x
  fill_taken x h = ap (option_and_then filled) (fraction_taken x) ∙ rw (one_le x.numerator h) refl

  position_taken : (p : Position) → IsPositionWithin account market p → position_from account market (piece_data (position_piece p)) ≡ Some p
  position_taken p h =
      then_taken _ _ p.batch _ (natural_taken 1 MAX_BATCHES p.batch h.batch)
      (then_taken _ _ p.fill _ (fill_taken p.fill h.filled)
      (then_taken _ _ p.bundle _
      (then_taken _ _ (legs_in p.bundle) _ (items_taken IsLegWithin leg_piece leg_from leg_taken (legs_in p.bundle) (legs_within p.bundle h.listed)) (bundle_made_of p.bundle))
      (then_taken _ _ p.order _ (natural_taken 1 MAX_ORDER p.order h.order)
      (ap (λ side. Some (position_of account market p.batch p.fill p.bundle p.order side)) (side_taken p.side) ∙ ap Some (position_back p h)))))

-- ---- words

stop_is : (run : StopReason) → is_stop (string (stop_word run)) ≡ true
stop_is stop.Wide = refl
stop_is stop.Budget = refl

stop_taken : (run : StopReason) → stop_by_word (stop_word run) ≡ run
stop_taken stop.Wide = refl
stop_taken stop.Budget = refl

failed_is : (f : FailureKind) → is_failed (string (failed_word f)) ≡ true
failed_is failed.BatchShape = refl
failed_is failed.Fill = refl
failed_is failed.Cover = refl
failed_is failed.Measure = refl
failed_is failed.Wide = refl

failed_taken : (f : FailureKind) → failed_by_word (failed_word f) ≡ f
failed_taken failed.BatchShape = refl
failed_taken failed.Fill = refl
failed_taken failed.Cover = refl
failed_taken failed.Measure = refl
failed_taken failed.Wide = refl

-- ---- replies

rising_taken : (d : Data) (batch : Batch) → batch_from d ≡ Some batch → AreRising batch.orders → option_and_then rising (batch_from d) ≡ Some batch
rising_taken d batch e h = ap (option_and_then rising) e ∙ ap (λ b. if b then Some batch else None) (are_rise batch.orders h)

book_taken : (line market : ℕ) (batch : Batch) → IsProposalLineWithin line (Book market batch) → IsTakenFrom line (Book market batch)
book_taken line market batch h = let d = piece_data (proposal_piece line (Book market batch)) in record {
  shape = and_from _ _ (orders_are batch.orders h.1.1.2) refl;
  numbers = refl;
  taken = paired _ _ line _ (line_taken line h.0)
      (then_taken _ _ market _ (natural_taken 1 MAX_MARKET market h.1.0)
      (ap (option_map (Book market))
      (rising_taken d batch (batch_taken d batch (natural_taken 1 8 batch.underlyings h.1.1.0) (orders_taken batch.orders h.1.1.1 h.1.1.2)) h.1.2)));
}

positions_taken : (line account market : ℕ) (positions : List Position) → IsProposalLineWithin line (Positions account market positions) → IsTakenFrom line (Positions account market positions)
positions_taken line account market positions h = record {
  shape = items_pass (IsPositionWithin account market) position_piece position_shape (position_is account market) positions h.1.2;
  numbers = items_pass (IsPositionWithin account market) position_piece position_numbers (position_is_numbered account market) positions h.1.2;
  taken = paired _ _ line _ (line_taken line h.0)
      (then_taken _ _ account _ (natural_taken 1 MAX_ACCOUNT account h.1.0)
      (then_taken _ _ market _ (natural_taken 1 MAX_MARKET market h.1.1)
      (ap (option_map (λ ps. Positions account market ps)) (items_taken (IsPositionWithin account market) position_piece (position_from account market) (position_taken account market) positions h.1.2))));
}

-- numbers that do not fall pass the test
order_passes : (surplus best_surplus least_bound bound : Frac128) → AreInOrder surplus best_surplus least_bound bound
    → are_in_order (fraction_of surplus) (fraction_of best_surplus) (fraction_of least_bound) (fraction_of bound) ≡ true
order_passes surplus best_surplus least_bound bound h =
    and_from _ _ (and_from _ _ (int_le-true _ _ h.not_below_zero) (int_le-true _ _ h.best)) (and_from _ _ (int_le-true _ _ h.bounded) (int_le-true _ _ h.least))

proposed_taken : (line market : ℕ) (surplus bound best_surplus least_bound : Frac128) → IsProposalLineWithin line (Proposed market surplus bound best_surplus least_bound)
    → IsTakenFrom line (Proposed market surplus bound best_surplus least_bound)
proposed_taken line market surplus bound best_surplus least_bound h = record {
  shape = refl;
  numbers = and_from _ _ (fraction_number best_surplus) (and_from _ _ (fraction_number bound) (and_from _ _ (fraction_number least_bound) (fraction_number surplus)));
  taken = paired _ _ line _ (line_taken line h.0)
      (then_taken _ _ market _ (natural_taken 1 MAX_MARKET market h.1.0)
      (then_taken _ _ surplus _ (fraction_taken surplus)
      (then_taken _ _ bound _ (fraction_taken bound)
      (then_taken _ _ best_surplus _ (fraction_taken best_surplus)
      (then_taken _ _ least_bound _ (fraction_taken least_bound)
      (ap (λ b. if b then Some (Proposed market surplus bound best_surplus least_bound) else None) (order_passes surplus best_surplus least_bound bound h.1.1)))))));
}

bounded_taken : (line number market : ℕ) (batch : Batch) (outcome : BoundedOutcome) → IsProposalLineWithin line (Bounded number market batch outcome) → IsTakenFrom line (Bounded number market batch outcome)
bounded_taken line number market batch outcome h =
    let p = outcome.proposal in
    let c = h.1.3.1 in
    let b = h.1.2 in
    let d = piece_data (proposal_piece line (Bounded number market batch outcome)) in
    record {
      shape = and_from _ _
          (and_from _ _ (proof_is p.cover p.measure c.0 c.1) (and_from _ _ (fills_are_texts p.fills) refl))
          (and_from _ _ (stop_is outcome.run) (and_from _ _ (orders_are batch.orders b.2) refl));
      numbers = and_from _ _ (fraction_number outcome.bound)
          (and_from _ _ (proof_numbered p.cover p.measure c.0 c.1)
          (and_from _ _ (fills_are_fractions p.fills) (and_from _ _ (fraction_number p.claim.liability) (fraction_number p.claim.surplus))));
      taken = paired _ _ line _ (line_taken line h.0)
          (then_taken _ _ (cleared_batch_of number market batch) _
          (cleared_batch_taken d number market batch (natural_taken 1 MAX_BATCHES number h.1.0) (natural_taken 1 MAX_MARKET market h.1.1) (natural_taken 1 8 batch.underlyings b.0) (orders_taken batch.orders b.1 b.2))
          (ap (option_map (Bounded number market batch))
          (then_taken _ _ outcome.bound _ (fraction_taken outcome.bound)
          (then_taken _ _ outcome.units _ (natural_taken 0 MAX_BUDGET outcome.units (omega arith, h.1.3.0))
          (ap (option_map (bounded_of (stop_by_word (stop_word outcome.run)) outcome.bound outcome.units))
          (parts_taken d p (fills_taken p.fills) (fraction_taken p.claim.liability) (fraction_taken p.claim.surplus) (proof_taken p c))
          ∙ ap (λ run. Some (bounded_of run outcome.bound outcome.units p)) (stop_taken outcome.run))))));
    }

stale_taken : (line : ℕ) → IsProposalLineWithin line Stale → IsTakenFrom line Stale
stale_taken line h = record { shape = refl; numbers = refl; taken = paired _ _ line Stale (line_taken line h.0) refl }

closed_taken : (line market orders : ℕ) → IsProposalLineWithin line (Closed market orders) → IsTakenFrom line (Closed market orders)
closed_taken line market orders h = record {
  shape = refl;
  numbers = refl;
  taken = paired _ _ line _ (line_taken line h.0)
      (then_taken _ _ market _ (natural_taken 1 MAX_MARKET market h.1.0) (ap (option_map (Closed market)) (natural_taken 0 MAX_ORDERS orders (omega arith, h.1.1))));
}

reopened_taken : (line market : ℕ) → IsProposalLineWithin line (Reopened market) → IsTakenFrom line (Reopened market)
reopened_taken line market h =
    record { shape = refl; numbers = refl; taken = paired _ _ line _ (line_taken line h.0) (ap (option_map Reopened) (natural_taken 1 MAX_MARKET market h.1)) }

is_closed_taken : (line : ℕ) → IsProposalLineWithin line MarketIsClosed → IsTakenFrom line MarketIsClosed
is_closed_taken line h = record { shape = refl; numbers = refl; taken = paired _ _ line MarketIsClosed (line_taken line h.0) refl }

is_open_taken : (line : ℕ) → IsProposalLineWithin line MarketIsOpen → IsTakenFrom line MarketIsOpen
is_open_taken line h = record { shape = refl; numbers = refl; taken = paired _ _ line MarketIsOpen (line_taken line h.0) refl }

unproved_taken : (line : ℕ) (f : FailureKind) → IsProposalLineWithin line (Unproved f) → IsTakenFrom line (Unproved f)
unproved_taken line f h = record {
  shape = and_from _ _ (failed_is f) refl;
  numbers = refl;
  taken = paired _ _ line (Unproved f) (line_taken line h.0) (ap (λ g. Some (Unproved g)) (failed_taken f));
}

-- ---- accounts

secured_taken : (line account amount : ℕ) → IsProposalLineWithin line (Secured account amount) → IsTakenFrom line (Secured account amount)
secured_taken line account amount h = record {
  shape = refl;
  numbers = is_number amount h.1.1;
  taken = paired _ _ line _ (line_taken line h.0)
      (then_taken _ _ account _ (natural_taken 1 MAX_ACCOUNT account h.1.0) (ap (option_map (Secured account)) (held_taken limit amount (omega (arith, h.1.1)) h.1.1)));
}

needs_taken : (line : ℕ) (told : AccountNeed) → IsProposalLineWithin line (Needs told) → IsTakenFrom line (Needs told)
needs_taken line told h = record {
  shape = refl;
  numbers = and_from _ _ (whole_number told.balance h.1.1) (need_is told.need h.1.2);
  taken = paired _ _ line _ (line_taken line h.0)
      (then_taken _ _ told.account _ (natural_taken 1 MAX_ACCOUNT told.account h.1.0)
      (then_taken _ _ told.balance _ (whole_taken limit told.balance h.1.1 (omega (arith, h.1.1)))
      (then_taken _ _ told.need _ (need_taken told.need h.1.2) refl)));
}

uncovered_taken : (line : ℕ) (n : Need) → IsProposalLineWithin line (Uncovered n) → IsTakenFrom line (Uncovered n)
uncovered_taken line n h = record {
  shape = refl;
  numbers = need_is n h.1;
  taken = paired _ _ line _ (line_taken line h.0) (ap (option_map Uncovered) (need_taken n h.1));
}

-- ---- trials

mark_is : (stopped : Option StopReason) → is_tried_mark (string (tried_mark stopped)) ≡ true
mark_is (Some stop.Wide) = refl
mark_is (Some stop.Budget) = refl
mark_is None = refl

mark_taken : (stopped : Option StopReason) → stopped_by_word (tried_mark stopped) ≡ stopped
mark_taken (Some stop.Wide) = refl
mark_taken (Some stop.Budget) = refl
mark_taken None = refl

part_taken : (x : Frac128) → IsNotBelowZero (fraction_of x) → option_and_then not_negative (fraction_from (piece_data (fraction x))) ≡ Some x
part_taken x h = ap (option_and_then not_negative) (fraction_taken x) ∙ rw (int_le-true (pos 0) (fraction_of x).numerator h) refl

tried_taken : (line market : ℕ) (trial : Trial) → IsProposalLineWithin line (Tried market trial) → IsTakenFrom line (Tried market trial)
tried_taken line market trial h = record {
  shape = and_from _ _ (mark_is trial.stopped) refl;
  numbers = and_from _ _ (fraction_number trial.fill) (fraction_number trial.surplus);
  taken = paired _ _ line _ (line_taken line h.0)
      (then_taken _ _ market _ (natural_taken 1 MAX_MARKET market h.1.0)
      (then_taken _ _ trial.fill _ (part_taken trial.fill h.1.1)
      (ap (option_map (tried_with market (stopped_by_word (tried_mark trial.stopped)) trial.fill)) (part_taken trial.surplus h.1.2)
      ∙ ap (λ stopped. Some (tried_with market stopped trial.fill trial.surplus)) (mark_taken trial.stopped))));
}

-- ---- refusals to whoever sent a line

barred_taken : (line : ℕ) (bar : Bar) → IsProposalLineWithin line (Barred bar) → IsTakenFrom line (Barred bar)
barred_taken line NotAllowed h = record { shape = refl; numbers = refl; taken = paired _ _ line _ (line_taken line h.0) refl }
barred_taken line NotAsked h = record { shape = refl; numbers = refl; taken = paired _ _ line _ (line_taken line h.0) refl }
barred_taken line OverQuota h = record { shape = refl; numbers = refl; taken = paired _ _ line _ (line_taken line h.0) refl }

pub reply_taken : (line : ℕ) (reply : ProposalReply) → IsProposalLineWithin line reply → IsTakenFrom line reply
reply_taken line (Book market batch) h = book_taken line market batch h
reply_taken line (Positions account market positions) h = positions_taken line account market positions h
reply_taken line (Proposed market surplus bound best_surplus least_bound) h = proposed_taken line market surplus bound best_surplus least_bound h
reply_taken line (Bounded number market batch outcome) h = bounded_taken line number market batch outcome h
reply_taken line Stale h = stale_taken line h
reply_taken line (Unproved f) h = unproved_taken line f h
reply_taken line (Closed market orders) h = closed_taken line market orders h
reply_taken line (Reopened market) h = reopened_taken line market h
reply_taken line MarketIsClosed h = is_closed_taken line h
reply_taken line MarketIsOpen h = is_open_taken line h
reply_taken line (Secured account amount) h = secured_taken line account amount h
reply_taken line (Needs told) h = needs_taken line told h
reply_taken line (Uncovered n) h = uncovered_taken line n h
reply_taken line (Quoted market bid ask) h = quoted_taken line market bid ask h
reply_taken line (Priced market quantity ask bid) h = priced_taken line market quantity ask bid h
reply_taken line (Margin account market margin) h = margin_taken line account market h.0 h.1.0 h.1.1 margin h.1.2
reply_taken line (Tried market trial) h = tried_taken line market trial h
reply_taken line (Barred bar) h = barred_taken line bar h
