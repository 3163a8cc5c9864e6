-- What proposals and the replies about them are written as.
use Rattle.std.specs.Prelude.{ℕ, List, [], ◌∷◌, ◌++◌, Option, Some, None, false, codes}
use Rattle.form.specs.declared.orders.Batch.{Batch}
use Rattle.cert_check.specs.declared.outcome.FailedCondition.TheVariants as no
use Rattle.proposal_check.specs.declared.covers.BoundFailure.{BoundFailure as Reason}
use Rattle.proposal_check.specs.declared.covers.BoundFailure.TheVariants as unproved
use Rattle.frac.specs.declared.frac128.Frac128.{Frac128}
use Rattle.settlement.specs.declared.position.Position.{Position}
use Rattle.reply_print.specs.BatchPieces.{natural, whole_words, fraction, each, order_piece}
use Rattle.reply_print.specs.Piece.{Piece, words, truth, object, Fields, no_fields, field, piece_text}
use Rattle.reply_print.specs.ReplyPieces.{position_piece, refused_with, reply_line}
use Rattle.proposal_text.specs.CoverPieces.{proof_piece}
use Rattle.proposal_text.specs.declared.needs.Need.{Need}
use Rattle.proposal_text.specs.declared.needs.Need.TheVariants as need
use Rattle.proposal_text.specs.declared.submissions.Submission.{Submission}
use Rattle.proposal_text.specs.declared.replies.StopReason.{StopReason}
use Rattle.proposal_text.specs.declared.replies.StopReason.TheVariants as stop
use Rattle.proposal_text.specs.declared.replies.BoundedOutcome.{BoundedOutcome}
use Rattle.proposal_text.specs.declared.replies.FailureKind.{FailureKind}
use Rattle.proposal_text.specs.declared.replies.FailureKind.TheVariants as failed
use Rattle.proposal_text.specs.declared.replies.AccountNeed.{AccountNeed}
use Rattle.proposal_text.specs.declared.replies.Bar.{Bar}
use Rattle.proposal_text.specs.declared.replies.Bar.TheVariants.{NotAllowed, NotAsked, OverQuota}
use Rattle.proposal_text.specs.declared.replies.Trial.{Trial}
use Rattle.proposal_text.specs.declared.replies.ProposalReply.{ProposalReply}
use Rattle.proposal_text.specs.declared.replies.ProposalReply.TheVariants.{Book, Positions, Proposed, Bounded, Stale, Unproved, Closed, Reopened, MarketIsClosed, MarketIsOpen, Secured, Needs, Uncovered, Quoted, Priced, Margin, Tried, Barred}
use Rattle.proposal_text.specs.declared.replies.ServedReply.{ServedReply}
use Rattle.proposal_text.specs.declared.replies.ServedReply.TheVariants.{Plain, Told}
use Rattle.proposal_text.specs.MarginPieces.{margin_piece}
use Rattle.proposal_text.specs.Needs.{need_text}
use Rattle.proposal_text.specs.PricePieces.{priced_piece, quoted_piece}

-- ---- proposals

abbrev pub submission_piece : Submission → Piece
submission_piece s =
    object (field (codes "certificate") (proof_piece s.proposal.cover s.proposal.measure)
    (field (codes "fills") (each fraction s.proposal.fills)
    (field (codes "liability") (fraction s.proposal.claim.liability)
    (field (codes "orders") (each natural s.orders)
    (field (codes "surplus") (fraction s.proposal.claim.surplus) no_fields)))))

-- what a line proposes, as it is spelled
abbrev pub submission_text : Submission → List ℕ
submission_text s = piece_text (submission_piece s)

-- ---- replies

abbrev pub book_piece : ℕ → ℕ → Batch → Piece
book_piece line market batch =
    object (field (codes "line") (natural line)
    (field (codes "market") (natural market)
    (field (codes "orders") (each (order_piece false) batch.orders)
    (field (codes "reply") (words (codes "book"))
    (field (codes "underlyings") (natural batch.underlyings) no_fields)))))

abbrev pub positions_piece : ℕ → ℕ → ℕ → List Position → Piece
positions_piece line account market positions =
    object (field (codes "account") (natural account)
    (field (codes "line") (natural line)
    (field (codes "market") (natural market)
    (field (codes "positions") (each position_piece positions)
    (field (codes "reply") (words (codes "positions")) no_fields)))))

abbrev pub proposed_piece : ℕ → ℕ → Frac128 → Frac128 → Frac128 → Frac128 → Piece
proposed_piece line market surplus bound best_surplus least_bound =
    object (field (codes "best_surplus") (fraction best_surplus)
    (field (codes "bound") (fraction bound)
    (field (codes "least_bound") (fraction least_bound)
    (field (codes "line") (natural line)
    (field (codes "market") (natural market)
    (field (codes "reply") (words (codes "proposed"))
    (field (codes "surplus") (fraction surplus) no_fields)))))))

abbrev pub stop_word : StopReason → List ℕ
stop_word stop.Wide = codes "wide"
stop_word stop.Budget = codes "budget"

-- from the orders on
abbrev pub bounded_end : Batch → BoundedOutcome → Fields
bounded_end batch outcome =
    field (codes "orders") (each (order_piece false) batch.orders)
    (field (codes "reply") (words (codes "cleared"))
    (field (codes "run") (words (stop_word outcome.run))
    (field (codes "surplus") (fraction outcome.proposal.claim.surplus)
    (field (codes "underlyings") (natural batch.underlyings)
    (field (codes "units") (natural outcome.units)
    (field (codes "version") (natural 3) no_fields))))))

-- from the fills on
abbrev pub bounded_middle : ℕ → ℕ → Batch → BoundedOutcome → Fields
bounded_middle line market batch outcome =
    field (codes "fills") (each fraction outcome.proposal.fills)
    (field (codes "liability") (fraction outcome.proposal.claim.liability)
    (field (codes "line") (natural line)
    (field (codes "mark") (words (codes "bounded"))
    (field (codes "market") (natural market) (bounded_end batch outcome)))))

-- a cleared line of version 3
abbrev pub bounded_piece : ℕ → ℕ → ℕ → Batch → BoundedOutcome → Piece
bounded_piece line number market batch outcome =
    object (field (codes "batch") (natural number)
    (field (codes "bound") (fraction outcome.bound)
    (field (codes "certificate") (proof_piece outcome.proposal.cover outcome.proposal.measure) (bounded_middle line market batch outcome))))

abbrev pub failed_word : FailureKind → List ℕ
failed_word failed.BatchShape = codes "BatchShape"
failed_word failed.Fill = codes "Fill"
failed_word failed.Cover = codes "Cover"
failed_word failed.Measure = codes "Measure"
failed_word failed.Wide = codes "Wide"

-- what fails; no proposal fails its bound
abbrev pub failed_as : Reason → FailureKind
failed_as (unproved.No no.BatchShape) = failed.BatchShape
failed_as (unproved.No no.Fill) = failed.Fill
failed_as (unproved.No no.Cover) = failed.Cover
failed_as (unproved.No no.Measure) = failed.Measure
failed_as (unproved.No no.Bound) = failed.Measure
failed_as (unproved.Wide w) = failed.Wide

abbrev pub unproved_piece : ℕ → FailureKind → Piece
unproved_piece line f =
    object (field (codes "failed") (words (failed_word f))
    (field (codes "line") (natural line)
    (field (codes "number") (natural 21)
    (field (codes "reason") (words (codes "Unproved"))
    (field (codes "reply") (words (codes "refused")) no_fields)))))

abbrev pub closed_piece : ℕ → ℕ → ℕ → Piece
closed_piece line market orders =
    object (field (codes "line") (natural line)
    (field (codes "market") (natural market)
    (field (codes "orders") (natural orders)
    (field (codes "reply") (words (codes "closed")) no_fields))))

abbrev pub reopened_piece : ℕ → ℕ → Piece
reopened_piece line market =
    object (field (codes "line") (natural line)
    (field (codes "market") (natural market)
    (field (codes "reply") (words (codes "reopened")) no_fields)))

-- ---- accounts

abbrev pub secured_piece : ℕ → ℕ → ℕ → Piece
secured_piece line account amount =
    object (field (codes "account") (natural account)
    (field (codes "line") (natural line)
    (field (codes "need") (words (need_text (need.Amount amount)))
    (field (codes "reply") (words (codes "secured")) no_fields))))

abbrev pub needs_piece : ℕ → AccountNeed → Piece
needs_piece line told =
    object (field (codes "account") (natural told.account)
    (field (codes "balance") (whole_words told.balance)
    (field (codes "line") (natural line)
    (field (codes "need") (words (need_text told.need))
    (field (codes "reply") (words (codes "need"))
    (field (codes "secured") (truth told.secured) no_fields))))))

abbrev pub uncovered_piece : ℕ → Need → Piece
uncovered_piece line n =
    object (field (codes "line") (natural line)
    (field (codes "need") (words (need_text n))
    (field (codes "number") (natural 14)
    (field (codes "reason") (words (codes "Margin"))
    (field (codes "reply") (words (codes "refused")) no_fields)))))

-- ---- trials

-- the mark of a clear whose run would stop, or would not
abbrev pub tried_mark : Option StopReason → List ℕ
tried_mark (Some run) = stop_word run
tried_mark None = codes "optimal"

abbrev pub tried_piece : ℕ → ℕ → Trial → Piece
tried_piece line market trial =
    object (field (codes "fill") (fraction trial.fill)
    (field (codes "line") (natural line)
    (field (codes "mark") (words (tried_mark trial.stopped))
    (field (codes "market") (natural market)
    (field (codes "reply") (words (codes "tried"))
    (field (codes "surplus") (fraction trial.surplus) no_fields))))))

-- ---- refusals to whoever sent a line

abbrev pub bar_number : Bar → ℕ
bar_number NotAllowed = 25
bar_number NotAsked = 26
bar_number OverQuota = 27

abbrev pub bar_word : Bar → List ℕ
bar_word NotAllowed = codes "NotAllowed"
bar_word NotAsked = codes "NotAsked"
bar_word OverQuota = codes "Quota"

-- ---- any reply

abbrev pub proposal_piece : ℕ → ProposalReply → Piece
proposal_piece line (Book market batch) = book_piece line market batch
proposal_piece line (Positions account market positions) = positions_piece line account market positions
proposal_piece line (Proposed market surplus bound best_surplus least_bound) = proposed_piece line market surplus bound best_surplus least_bound
proposal_piece line (Bounded number market batch outcome) = bounded_piece line number market batch outcome
proposal_piece line Stale = refused_with false line 20 0 (codes "Stale")
proposal_piece line (Unproved f) = unproved_piece line f
proposal_piece line (Closed market orders) = closed_piece line market orders
proposal_piece line (Reopened market) = reopened_piece line market
proposal_piece line MarketIsClosed = refused_with false line 23 0 (codes "Closed")
proposal_piece line MarketIsOpen = refused_with false line 24 0 (codes "Open")
proposal_piece line (Secured account amount) = secured_piece line account amount
proposal_piece line (Needs told) = needs_piece line told
proposal_piece line (Uncovered n) = uncovered_piece line n
proposal_piece line (Quoted market bid ask) = quoted_piece line market bid ask
proposal_piece line (Priced market quantity ask bid) = priced_piece line market quantity ask bid
proposal_piece line (Margin account market margin) = margin_piece line account market margin
proposal_piece line (Tried market trial) = tried_piece line market trial
proposal_piece line (Barred bar) = refused_with false line (bar_number bar) 0 (bar_word bar)

-- the line of a reply, without its line feed
abbrev pub proposal_line : ℕ → ProposalReply → List ℕ
proposal_line line reply = piece_text (proposal_piece line reply)

-- the line of what a question is answered, and nothing of another reply
abbrev pub asked_text : ℕ → ProposalReply → List ℕ
asked_text line (Book market batch) = piece_text (book_piece line market batch)
asked_text line (Positions account market positions) = piece_text (positions_piece line account market positions)
asked_text line (Needs told) = piece_text (needs_piece line told)
asked_text line (Quoted market bid ask) = piece_text (quoted_piece line market bid ask)
asked_text line (Priced market quantity ask bid) = piece_text (priced_piece line market quantity ask bid)
asked_text line (Margin account market margin) = piece_text (margin_piece line account market margin)
asked_text line (Tried market trial) = piece_text (tried_piece line market trial)
asked_text line other = []

-- the line of what a line is answered, without its line feed
abbrev pub served_line : ℕ → ServedReply → List ℕ
served_line line (Plain reply) = reply_line line reply
served_line line (Told reply) = proposal_line line reply

-- with its line feed, and what stands after it
abbrev pub written_reply : {S : Type 0} → ℕ → ServedReply × S → List ℕ × S
written_reply line result = (served_line line result.0 ++ 10 ∷ [], result.1)
