use Rattle.std.proofs.Common.{◌++◌, refl, ap, ◌∙◌}
use Rattle.std.proofs.lemmas.Result.{on_ok_weaker}
use Rattle.reply_print.specs.BatchPieces.{order_piece}
use Rattle.reply_print.specs.Piece.{piece, pieces_text}
use Rattle.reply_print.proofs.Behind.{item_added, next_item, all_items}
use Rattle.reply_print.proofs.printed_orders.add_orders.Goals as goal

pub loop-order-preserved : goal.loop-order-preserved
loop-order-preserved c =
    let l = c.loop-order in
    next_item (order_piece c.args.single) c.args.orders.now l.order-index c.order-item.result l.line.items c.add_order.new.line.items _ l.later c.loop-order-test.true l.invariant
    (λ ps. item_added l.line.items c.append-in-loop-order.new.line.items c.add_order.new.line.items c.comma.result.now l.later (order_piece c.args.single c.order-item.result)
    c.comma.ensures c.in_ok-append-2.ensures c.in_ok-add_order.ensures ps
    ∙ ap (λ x. l.line.items ++ pieces_text l.later (piece (order_piece c.args.single x) ps)) c.order-item.is)

pub returns : goal.returns
returns c =
    let l = c.loop-order in
    on_ok_weaker c.append-2.result
    (λ e. all_items (order_piece c.args.single) c.args.orders.now l.order-index c.args.line.now.items _ l.line.items c.append-2.new.line.items l.later c.loop-order-test.false
    refl l.invariant e)
    c.append-2.ensures
