-- The pieces of proposals and of the replies about them within their ranges are plain and shallow,
-- and their keys rise.
use Rattle.std.proofs.Common.{ℕ, List, false, refl, arith}
use Rattle.std.specs.List.{AllByRecursion}
use Rattle.form.specs.declared.orders.Batch.{Batch}
use Rattle.form.specs.declared.orders.Order.{Order}
use Rattle.form.specs.Bundles.{legs_in}
use Rattle.settlement.specs.declared.position.Position.{Position}
use Rattle.reply_print.specs.BatchPieces.{natural, pieces_of, leg_piece, order_piece}
use Rattle.reply_print.specs.Within.{IsLine, IsMarket, IsOrderWithin, IsBatchWithin, IsOrderNumber}
use Rattle.reply_print.specs.Written.{IsWritten, AreWritten, HasWritten}
use Rattle.reply_print.proofs.Digits.{plain-decimal, plain-signed_decimal}
use Rattle.reply_print.proofs.PlainPieces.{side_plain, fraction_plain}
use Rattle.reply_print.proofs.WrittenReplies.{short, each_written, fills_written, IsLegWithin, legs_within, leg_written, order_written}
use Rattle.proposal_text.specs.declared.submissions.Submission.{Submission}
use Rattle.proposal_text.specs.declared.replies.BoundedOutcome.{BoundedOutcome}
use Rattle.proposal_text.specs.declared.replies.Bar.{Bar}
use Rattle.proposal_text.specs.declared.replies.Bar.TheVariants.{NotAllowed, NotAsked, OverQuota}
use Rattle.proposal_text.specs.declared.replies.ProposalReply.{ProposalReply}
use Rattle.proposal_text.specs.declared.replies.ProposalReply.TheVariants.{Book, Positions, Proposed, Bounded, Stale, Unproved, Closed, Reopened, MarketIsClosed, MarketIsOpen, Secured, Needs, Uncovered, Quoted, Priced, Margin, Tried, Barred}
use Rattle.reply_print.specs.ReplyPieces.{position_piece, refused_with}
use Rattle.proposal_text.specs.Pieces.{submission_piece, bounded_end, bounded_middle, bar_number, bar_word, proposal_piece}
use Rattle.proposal_text.specs.Within.{IsSubmissionWithin, IsPositionWithin, IsBoundedWithin, IsProposalLineWithin}
use Rattle.proposal_text.proofs.ReadCovers.{proof_written}
use Rattle.proposal_text.proofs.WrittenAsked.{margin_written, priced_written, quoted_written}
use Rattle.proposal_text.proofs.PlainProposals.{stop_plain, failed_plain, need_plain, mark_plain}

pub submission_written : (s : Submission) → IsSubmissionWithin s → IsWritten 6 (submission_piece s)
submission_written s h = (
  refl,
  (
    refl,
    proof_written s.proposal.cover s.proposal.measure h.0.0 h.0.1,
    (
      refl,
      fills_written s.proposal.fills,
      (
        refl,
        fraction_plain s.proposal.claim.liability,
        (
          refl,
          each_written IsOrderNumber 4 natural (λ n o. short n (omega (arith, o.1))) s.orders h.2,
          (refl, fraction_plain s.proposal.claim.surplus, tt),
        ),
      ),
    ),
  ),
)

orders_written : (orders : List Order) → AllByRecursion IsOrderWithin orders → AreWritten 4 (pieces_of (order_piece false) orders)
orders_written orders h =
    each_written IsOrderWithin 4 (order_piece false) (λ order o. order_written false (legs_in order.bundle) order (legs_within order.bundle o.2.options) o) orders h

position_written : (account market : ℕ) (p : Position) → IsPositionWithin account market p → IsWritten 4 (position_piece p)
position_written account market p h = (
  refl,
  (
    refl,
    short p.batch (omega (arith, h.batch.1)),
    (
      refl,
      fraction_plain p.fill,
      (
        refl,
        each_written IsLegWithin 2 leg_piece leg_written (legs_in p.bundle) (legs_within p.bundle h.listed),
        (refl, short p.order (omega (arith, h.order.1)), (refl, side_plain p.side, tt)),
      ),
    ),
  ),
)

end_written : (batch : Batch) (outcome : BoundedOutcome) → IsBatchWithin batch → IsBoundedWithin outcome → HasWritten 5 (bounded_end batch outcome)
end_written batch outcome b o = (
  refl,
  orders_written batch.orders b.2,
  (
    refl,
    refl,
    (
      refl,
      stop_plain outcome.run,
      (
        refl,
        fraction_plain outcome.proposal.claim.surplus,
        (refl, short batch.underlyings (omega arith), (refl, short outcome.units (omega arith), (refl, refl, tt))),
      ),
    ),
  ),
)

middle_written : (line market : ℕ) (batch : Batch) (outcome : BoundedOutcome) → IsLine line → IsMarket market → IsBatchWithin batch → IsBoundedWithin outcome
    → HasWritten 5 (bounded_middle line market batch outcome)
middle_written line market batch outcome l m b o = (
  refl,
  fills_written outcome.proposal.fills,
  (
    refl,
    fraction_plain outcome.proposal.claim.liability,
    (
      refl,
      short line (omega arith),
      (refl, refl, (refl, short market (omega arith), end_written batch outcome b o)),
    ),
  ),
)

barred_written : (line : ℕ) (bar : Bar) → IsLine line → IsWritten 6 (refused_with false line (bar_number bar) 0 (bar_word bar))
barred_written line NotAllowed l = (refl, (refl, short line (omega arith), (refl, refl, (refl, refl, (refl, refl, tt)))))
barred_written line NotAsked l = (refl, (refl, short line (omega arith), (refl, refl, (refl, refl, (refl, refl, tt)))))
barred_written line OverQuota l = (refl, (refl, short line (omega arith), (refl, refl, (refl, refl, (refl, refl, tt)))))

pub reply_written : (line : ℕ) (reply : ProposalReply) → IsProposalLineWithin line reply → IsWritten 6 (proposal_piece line reply)
reply_written line (Book market batch) h = (
  refl,
  (
    refl,
    short line (omega arith),
    (
      refl,
      short market (omega arith),
      (refl, orders_written batch.orders h.1.1.2, (refl, refl, (refl, short batch.underlyings (omega arith), tt))),
    ),
  ),
)
reply_written line (Positions account market positions) h = (
  refl,
  (
    refl,
    short account (omega arith),
    (
      refl,
      short line (omega arith),
      (
        refl,
        short market (omega arith),
        (refl, each_written (IsPositionWithin account market) 4 position_piece (position_written account market) positions h.1.2, (refl, refl, tt)),
      ),
    ),
  ),
)
reply_written line (Proposed market surplus bound best_surplus least_bound) h = (
  refl,
  (
    refl,
    fraction_plain best_surplus,
    (
      refl,
      fraction_plain bound,
      (
        refl,
        fraction_plain least_bound,
        (refl, short line (omega arith), (refl, short market (omega arith), (refl, refl, (refl, fraction_plain surplus, tt)))),
      ),
    ),
  ),
)
reply_written line (Bounded number market batch outcome) h = (
  refl,
  (
    refl,
    short number (omega arith),
    (
      refl,
      fraction_plain outcome.bound,
      (
        refl,
        proof_written outcome.proposal.cover outcome.proposal.measure h.1.3.1.0 h.1.3.1.1,
        middle_written line market batch outcome h.0 h.1.1 h.1.2 h.1.3,
      ),
    ),
  ),
)
reply_written line Stale h = (refl, (refl, short line (omega arith), (refl, refl, (refl, refl, (refl, refl, tt)))))
reply_written line (Unproved f) h = (refl, (refl, failed_plain f, (refl, short line (omega arith), (refl, refl, (refl, refl, (refl, refl, tt))))))
reply_written line (Closed market orders) h =
    (refl, (refl, short line (omega arith), (refl, short market (omega arith), (refl, short orders (omega arith), (refl, refl, tt)))))
reply_written line (Reopened market) h = (refl, (refl, short line (omega arith), (refl, short market (omega arith), (refl, refl, tt))))
reply_written line MarketIsClosed h = (refl, (refl, short line (omega arith), (refl, refl, (refl, refl, (refl, refl, tt)))))
reply_written line MarketIsOpen h = (refl, (refl, short line (omega arith), (refl, refl, (refl, refl, (refl, refl, tt)))))
reply_written line (Secured account amount) h =
    (refl, (refl, short account (omega arith), (refl, short line (omega arith), (refl, plain-decimal amount, (refl, refl, tt)))))
reply_written line (Needs told) h = (
  refl,
  (
    refl,
    short told.account (omega arith),
    (
      refl,
      plain-signed_decimal told.balance,
      (refl, short line (omega arith), (refl, need_plain told.need, (refl, refl, (refl, tt, tt)))),
    ),
  ),
)
reply_written line (Uncovered n) h = (refl, (refl, short line (omega arith), (refl, need_plain n, (refl, refl, (refl, refl, (refl, refl, tt))))))
reply_written line (Quoted market bid ask) h = quoted_written line market h.0 h.1.0 bid ask
reply_written line (Priced market quantity ask bid) h = priced_written line market h.0 h.1.0 quantity ask bid h.1.1
reply_written line (Margin account market margin) h = margin_written line account market h.0 h.1.0 h.1.1 margin h.1.2
reply_written line (Tried market trial) h = (
  refl,
  (
    refl,
    fraction_plain trial.fill,
    (
      refl,
      short line (omega arith),
      (refl, mark_plain trial.stopped, (refl, short market (omega arith), (refl, refl, (refl, fraction_plain trial.surplus, tt)))),
    ),
  ),
)
reply_written line (Barred bar) h = barred_written line bar h.0
