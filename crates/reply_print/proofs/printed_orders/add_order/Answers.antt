use Rattle.std.proofs.Common.{codes, ◌∙◌}
use Rattle.std.proofs.lemmas.Result.{on_ok_weaker}
use Rattle.reply_print.specs.BatchPieces.{natural, bundle_field, order_piece}
use Rattle.reply_print.specs.Piece.{words, no_fields, field}
use Rattle.reply_print.proofs.Behind.{closed, fields_of}
use Rattle.reply_print.proofs.printed_orders.add_order.Goals as goal

pub returns : goal.returns
returns c =
    let order = c.args.order.now in
    let side = field (codes "side") (words c.word_of.result.now) no_fields in
    let quantity = field (codes "quantity") (natural c.from-2.result) side in
    let price = field (codes "price") (natural order.price) quantity in
    let id = field (codes "order") (natural order.id) price in
    let bundle = bundle_field c.args.single c.as_slice.result.now id in
    let fields =
    c.in_ok-add_words.ensures no_fields ∙ c.in_ok-add_number-4.ensures side ∙ c.in_ok-add_number-3.ensures quantity ∙ c.in_ok-add_number-2.ensures price
    ∙ c.in_ok-add_bundle.ensures id ∙ c.in_ok-add_number.ensures bundle in
    on_ok_weaker c.append-2.result
    (λ e. closed c.args.line.now.items c.append.new.line.items c.add_words.new.line.items c.append-2.new.line.items (fields_of (order_piece c.args.single order))
    c.in_ok-append.ensures
    (rw (c.from.ensures, c.from-2.ensures, c.word_of.ensures, c.as_slice.ensures) at fields) e)
    c.append-2.ensures
