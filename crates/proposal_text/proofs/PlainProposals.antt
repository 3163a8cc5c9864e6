-- The texts in the pieces of proposals and of the replies about them are plain.
use Rattle.std.proofs.Common.{◌≡◌, ℕ, List, Option, Some, None, false, true, refl, codes}
use Rattle.form.specs.declared.orders.Batch.{Batch}
use Rattle.form.specs.declared.orders.Order.{Order}
use Rattle.form.specs.Bundles.{legs_in}
use Rattle.settlement.specs.declared.position.Position.{Position}
use Rattle.reply_print.specs.BatchPieces.{natural, fraction, pieces_of, leg_piece, order_piece}
use Rattle.reply_print.specs.Written.{is_plain}
use Rattle.reply_print.proofs.Digits.{plain-decimal, plain-signed_decimal}
use Rattle.reply_print.proofs.PlainPieces.{HasPlainTexts, HavePlainTexts, HasPlainFields, each_plain, side_plain, fraction_plain, leg_plain, order_plain, refused_plain}
use Rattle.proposal_text.proofs.PlainAsked.{margin_plain, priced_plain, quoted_plain}
use Rattle.proposal_text.proofs.PlainCovers.{proof_plain}
use Rattle.proposal_text.specs.declared.submissions.Submission.{Submission}
use Rattle.proposal_text.specs.declared.replies.StopReason.{StopReason}
use Rattle.proposal_text.specs.declared.replies.StopReason.TheVariants as stop
use Rattle.proposal_text.specs.declared.replies.BoundedOutcome.{BoundedOutcome}
use Rattle.proposal_text.specs.declared.replies.FailureKind.{FailureKind}
use Rattle.proposal_text.specs.declared.replies.FailureKind.TheVariants as failed
use Rattle.proposal_text.specs.declared.needs.Need.{Need}
use Rattle.proposal_text.specs.declared.needs.Need.TheVariants as need
use Rattle.proposal_text.specs.declared.replies.Bar.{Bar}
use Rattle.proposal_text.specs.declared.replies.Bar.TheVariants.{NotAllowed, NotAsked, OverQuota}
use Rattle.proposal_text.specs.declared.replies.ProposalReply.{ProposalReply}
use Rattle.proposal_text.specs.declared.replies.ProposalReply.TheVariants.{Book, Positions, Proposed, Bounded, Stale, Unproved, Closed, Reopened, MarketIsClosed, MarketIsOpen, Secured, Needs, Uncovered, Quoted, Priced, Margin, Tried, Barred}
use Rattle.reply_print.specs.ReplyPieces.{position_piece}
use Rattle.proposal_text.specs.Pieces.{submission_piece, stop_word, bounded_end, bounded_middle, failed_word, tried_mark, bar_number, bar_word, proposal_piece}
use Rattle.proposal_text.specs.Needs.{need_text}

pub submission_plain : (s : Submission) → HasPlainTexts (submission_piece s)
submission_plain s = (
  refl,
  proof_plain s.proposal.cover s.proposal.measure,
  (
    refl,
    each_plain fraction fraction_plain s.proposal.fills,
    (refl, fraction_plain s.proposal.claim.liability, (refl, each_plain natural (λ n. tt) s.orders, (refl, fraction_plain s.proposal.claim.surplus, tt))),
  ),
)

orders_plain : (orders : List Order) → HavePlainTexts (pieces_of (order_piece false) orders)
orders_plain orders = each_plain (order_piece false) (λ order. order_plain false (legs_in order.bundle) order) orders

position_plain : (p : Position) → HasPlainTexts (position_piece p)
position_plain p =
    (refl, tt, (refl, fraction_plain p.fill, (refl, each_plain leg_piece leg_plain (legs_in p.bundle), (refl, tt, (refl, side_plain p.side, tt)))))

pub stop_plain : (run : StopReason) → is_plain (stop_word run) ≡ true
stop_plain stop.Wide = refl
stop_plain stop.Budget = refl

end_plain : (batch : Batch) (outcome : BoundedOutcome) → HasPlainFields (bounded_end batch outcome)
end_plain batch outcome =
    (refl, orders_plain batch.orders, (refl, refl, (refl, stop_plain outcome.run, (refl, fraction_plain outcome.proposal.claim.surplus, (refl, tt, (refl, tt, (refl, tt, tt)))))))

middle_plain : (line market : ℕ) (batch : Batch) (outcome : BoundedOutcome) → HasPlainFields (bounded_middle line market batch outcome)
middle_plain line market batch outcome =
    (refl, each_plain fraction fraction_plain outcome.proposal.fills, (refl, fraction_plain outcome.proposal.claim.liability, (refl, tt, (refl, refl, (refl, tt, end_plain batch outcome)))))

pub failed_plain : (f : FailureKind) → is_plain (failed_word f) ≡ true
failed_plain failed.BatchShape = refl
failed_plain failed.Fill = refl
failed_plain failed.Cover = refl
failed_plain failed.Measure = refl
failed_plain failed.Wide = refl

pub need_plain : (n : Need) → is_plain (need_text n) ≡ true
need_plain (need.Amount amount) = plain-decimal amount
need_plain need.Positions = refl
need_plain need.Unbounded = refl
need_plain need.Wide = refl
need_plain need.Budget = refl
need_plain need.Sum = refl

pub mark_plain : (stopped : Option StopReason) → is_plain (tried_mark stopped) ≡ true
mark_plain (Some run) = stop_plain run
mark_plain None = refl

pub bar_plain : (bar : Bar) → is_plain (bar_word bar) ≡ true
bar_plain NotAllowed = refl
bar_plain NotAsked = refl
bar_plain OverQuota = refl

pub reply_plain : (line : ℕ) (reply : ProposalReply) → HasPlainTexts (proposal_piece line reply)
reply_plain line (Book market batch) = (refl, tt, (refl, tt, (refl, orders_plain batch.orders, (refl, refl, (refl, tt, tt)))))
reply_plain line (Positions account market positions) =
    (refl, tt, (refl, tt, (refl, tt, (refl, each_plain position_piece position_plain positions, (refl, refl, tt)))))
reply_plain line (Proposed market surplus bound best_surplus least_bound) =
    (refl, fraction_plain best_surplus, (refl, fraction_plain bound, (refl, fraction_plain least_bound, (refl, tt, (refl, tt, (refl, refl, (refl, fraction_plain surplus, tt)))))))
reply_plain line (Bounded number market batch outcome) =
    (refl, tt, (refl, fraction_plain outcome.bound, (refl, proof_plain outcome.proposal.cover outcome.proposal.measure, middle_plain line market batch outcome)))
reply_plain line Stale = refused_plain false line 20 0 (codes "Stale") refl
reply_plain line (Unproved f) = (refl, failed_plain f, (refl, tt, (refl, tt, (refl, refl, (refl, refl, tt)))))
reply_plain line (Closed market orders) = (refl, tt, (refl, tt, (refl, tt, (refl, refl, tt))))
reply_plain line (Reopened market) = (refl, tt, (refl, tt, (refl, refl, tt)))
reply_plain line MarketIsClosed = refused_plain false line 23 0 (codes "Closed") refl
reply_plain line MarketIsOpen = refused_plain false line 24 0 (codes "Open") refl
reply_plain line (Secured account amount) = (refl, tt, (refl, tt, (refl, plain-decimal amount, (refl, refl, tt))))
reply_plain line (Needs told) =
    (refl, tt, (refl, plain-signed_decimal told.balance, (refl, tt, (refl, need_plain told.need, (refl, refl, (refl, tt, tt))))))
reply_plain line (Uncovered n) = (refl, tt, (refl, need_plain n, (refl, tt, (refl, refl, (refl, refl, tt)))))
reply_plain line (Quoted market bid ask) = quoted_plain line market bid ask
reply_plain line (Priced market quantity ask bid) = priced_plain line market quantity ask bid
reply_plain line (Margin account market margin) = margin_plain line account market margin
reply_plain line (Tried market trial) =
    (refl, fraction_plain trial.fill, (refl, tt, (refl, mark_plain trial.stopped, (refl, tt, (refl, refl, (refl, fraction_plain trial.surplus, tt))))))
reply_plain line (Barred bar) = refused_plain false line (bar_number bar) 0 (bar_word bar) (bar_plain bar)
