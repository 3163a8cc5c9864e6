use Rattle.std.proofs.Common.{◌≡◌, [], ◌∷◌, ◌++◌, false, drop}
use Rattle.reply_print.specs.BatchPieces.{order_piece, pieces_of}
use Rattle.reply_print.specs.Piece.{pieces_text}
use Rattle.reply_print.proofs.printed_orders.add_orders.Given as goal

abbrev pub invariant-loop-order : goal.invariant-loop-order
invariant-loop-order l =
    l.line.items ++ pieces_text l.later (pieces_of (order_piece l.single) (drop l.order-index l.orders))
    ≡ (l.fn.line.items ++ 91 ∷ []) ++ pieces_text false (pieces_of (order_piece l.single) l.orders)
