-- What a reply is written as, and its line.
use Rattle.std.specs.Prelude.{ℕ, ℤ, pos, neg_ℤ, List, Bool, true, false, codes}
use Rattle.form.specs.declared.orders.Side.{Side}
use Rattle.form.specs.declared.orders.Side.TheVariants.{Buy, Sell}
use Rattle.cert_check.specs.declared.outcome.Mark.{Mark}
use Rattle.cert_check.specs.declared.outcome.Outcome.{Outcome}
use Rattle.form.specs.Bundles.{legs_in}
use Rattle.form.specs.Sides.{side_word}
use Rattle.form.specs.declared.orders.Batch.{Batch}
use Rattle.settlement.specs.declared.position.PaidOut.{PaidOut}
use Rattle.settlement.specs.declared.position.Position.{Position}
use Rattle.reply_print.specs.declared.replies.Reply.{Reply}
use Rattle.reply_print.specs.declared.replies.Reply.TheVariants.{Opened, Deposited, Withdrawn, Listed, Placed, Cancelled, Cleared, Settled, Balance, Refused}
use Rattle.reply_print.specs.BatchPieces.{natural, whole_words, fraction, each, leg_piece, are_single, order_piece, version_of}
use Rattle.reply_print.specs.OutcomePieces.{certificate_field, wide_field}
use Rattle.reply_print.specs.Piece.{Piece, words, object, Fields, no_fields, field, piece_text}
use Rattle.reply_print.specs.Words.{mark_word, is_range_refusal, reason_word}

abbrev pub opened_piece : ℕ → ℕ → Piece
opened_piece line account =
    object (field (codes "account") (natural account) (field (codes "line") (natural line) (field (codes "reply") (words (codes "opened")) no_fields)))

-- an account's new balance, under the word of the reply
abbrev pub moved_piece : List ℕ → ℕ → ℕ → ℤ → Piece
moved_piece reply line account balance =
    object (field (codes "account") (natural account)
    (field (codes "balance") (whole_words balance)
    (field (codes "line") (natural line)
    (field (codes "reply") (words reply) no_fields))))

abbrev pub listed_piece : ℕ → ℕ → ℕ → Piece
listed_piece line market underlyings =
    object (field (codes "line") (natural line)
    (field (codes "market") (natural market)
    (field (codes "reply") (words (codes "listed"))
    (field (codes "underlyings") (natural underlyings) no_fields))))

-- what became of an order, under the word of the reply
abbrev pub ordered_piece : List ℕ → ℕ → ℕ → Piece
ordered_piece reply line order =
    object (field (codes "line") (natural line) (field (codes "order") (natural order) (field (codes "reply") (words reply) no_fields)))

abbrev pub balance_piece : ℕ → ℕ → ℤ → ℤ → Piece
balance_piece line account balance reserved =
    object (field (codes "account") (natural account)
    (field (codes "balance") (whole_words balance)
    (field (codes "line") (natural line)
    (field (codes "reply") (words (codes "balance"))
    (field (codes "reserved") (whole_words reserved) no_fields)))))

-- the field is told of the refusal Range alone
abbrev pub field_field : Bool → ℕ → Fields → Fields
field_field true place more = field (codes "field") (natural place) more
field_field false place more = more

-- with the reason of its number
abbrev pub refused_with : Bool → ℕ → ℕ → ℕ → List ℕ → Piece
refused_with is_range line number place reason =
    object (field_field is_range place
    (field (codes "line") (natural line)
    (field (codes "number") (natural number)
    (field (codes "reason") (words reason)
    (field (codes "reply") (words (codes "refused")) no_fields)))))

abbrev pub refused_piece : ℕ → ℕ → ℕ → Piece
refused_piece line number place = refused_with (is_range_refusal number) line number place (reason_word number)

-- what is paid, with a minus where a seller pays
abbrev pub signed_amount : Side → ℕ → ℤ
signed_amount Buy amount = pos amount
signed_amount Sell amount = neg_ℤ (pos amount)

abbrev pub paid_piece : PaidOut → Piece
paid_piece paid =
    object (field (codes "account") (natural paid.account)
    (field (codes "amount") (whole_words (signed_amount paid.side paid.amount))
    (field (codes "batch") (natural paid.batch)
    (field (codes "order") (natural paid.order) no_fields))))

-- fills that an account holds
abbrev pub position_piece : Position → Piece
position_piece p =
    object (field (codes "batch") (natural p.batch)
    (field (codes "fill") (fraction p.fill)
    (field (codes "legs") (each leg_piece (legs_in p.bundle))
    (field (codes "order") (natural p.order)
    (field (codes "side") (words (side_word p.side)) no_fields)))))

abbrev pub settled_piece : ℕ → ℕ → ℕ → List PaidOut → Piece
settled_piece line market lapsed payouts =
    object (field (codes "lapsed") (natural lapsed)
    (field (codes "line") (natural line)
    (field (codes "market") (natural market)
    (field (codes "payouts") (each paid_piece payouts)
    (field (codes "reply") (words (codes "settled")) no_fields)))))

-- from the orders on
abbrev pub cleared_end : Batch → Outcome → Mark → Bool → Fields
cleared_end batch outcome mark single =
    field (codes "orders") (each (order_piece single) batch.orders)
    (field (codes "reply") (words (codes "cleared"))
    (field (codes "surplus") (fraction outcome.claim.surplus)
    (field (codes "underlyings") (natural batch.underlyings)
    (field (codes "units") (natural outcome.units)
    (field (codes "version") (natural (version_of single)) (wide_field mark))))))

-- from the fills on
abbrev pub cleared_middle : Mark → Bool → ℕ → ℕ → Batch → Outcome → Fields
cleared_middle mark single line market batch outcome =
    field (codes "fills") (each fraction outcome.fills)
    (field (codes "liability") (fraction outcome.claim.liability)
    (field (codes "line") (natural line)
    (field (codes "mark") (words (mark_word mark))
    (field (codes "market") (natural market) (cleared_end batch outcome mark single)))))

-- an outcome under its mark
abbrev pub cleared_with : Mark → Bool → ℕ → ℕ → ℕ → Batch → Outcome → Piece
cleared_with mark single line number market batch outcome =
    object (field (codes "batch") (natural number) (certificate_field mark (cleared_middle mark single line market batch outcome)))

abbrev pub cleared_piece : ℕ → ℕ → ℕ → Batch → Outcome → Piece
cleared_piece line number market batch outcome = cleared_with outcome.mark (are_single batch.orders) line number market batch outcome

abbrev pub reply_piece : ℕ → Reply → Piece
reply_piece line (Opened account) = opened_piece line account
reply_piece line (Deposited account balance) = moved_piece (codes "deposited") line account balance
reply_piece line (Withdrawn account balance) = moved_piece (codes "withdrawn") line account balance
reply_piece line (Listed market underlyings) = listed_piece line market underlyings
reply_piece line (Placed order) = ordered_piece (codes "placed") line order
reply_piece line (Cancelled order) = ordered_piece (codes "cancelled") line order
reply_piece line (Cleared number market batch outcome) = cleared_piece line number market batch outcome
reply_piece line (Settled market lapsed payouts) = settled_piece line market lapsed payouts
reply_piece line (Balance account balance reserved) = balance_piece line account balance reserved
reply_piece line (Refused number place) = refused_piece line number place

-- the line of a reply, without its line feed
abbrev pub reply_line : ℕ → Reply → List ℕ
reply_line line reply = piece_text (reply_piece line reply)
