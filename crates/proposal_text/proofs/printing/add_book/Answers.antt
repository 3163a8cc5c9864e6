use Rattle.std.proofs.Common.{true, false, codes, ◌∙◌}
use Rattle.std.proofs.lemmas.Result.{on_ok_weaker}
use Rattle.reply_print.specs.BatchPieces.{natural, each, order_piece}
use Rattle.reply_print.specs.Piece.{words, no_fields, field}
use Rattle.proposal_text.specs.Pieces.{book_piece}
use Rattle.reply_print.proofs.Behind.{closed, field_added, fields_of}
use Rattle.proposal_text.proofs.printing.add_book.Goals as goal

pub returns : goal.returns
returns c =
    let underlyings = field (codes "underlyings") (natural c.from-3.result) no_fields in
    let reply = field (codes "reply") (words (codes "book")) underlyings in
    let orders = field_added c.add_number-2.new.line.items c.add_key.new.line.items c.add_orders.new.line.items true (codes "orders") (each (order_piece false) c.as_slice.result.now)
    c.in_ok-add_key.ensures c.in_ok-add_orders.ensures in
    let market = field (codes "orders") (each (order_piece false) c.as_slice.result.now) reply in
    let line = field (codes "market") (natural c.from-2.result) market in
    let fields =
    c.in_ok-add_number-3.ensures no_fields ∙ c.in_ok-add_words.ensures underlyings ∙ orders reply ∙ c.in_ok-add_number-2.ensures market ∙ c.in_ok-add_number.ensures line in
    on_ok_weaker c.append-2.result
    (λ e. closed c.args.line.now.items c.append.new.line.items c.add_number-3.new.line.items c.append-2.new.line.items (fields_of (book_piece c.args.at c.args.market c.args.batch.now))
    c.in_ok-append.ensures
    (rw (c.from.ensures, c.from-2.ensures, c.from-3.ensures, c.as_slice.ensures) at fields) e)
    c.append-2.ensures
