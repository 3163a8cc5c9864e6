use Rattle.std.proofs.Common.{◌≡◌, [], ◌∷◌, ◌++◌, false, drop}
use Rattle.reply_print.specs.BatchPieces.{pieces_of}
use Rattle.reply_print.specs.Piece.{pieces_text}
use Rattle.reply_print.proofs.printing.add_list.Given as goal

abbrev pub invariant-loop-item : goal.invariant-loop-item
invariant-loop-item g l =
    let f = g.P.Printed.piece in
    l.line.items ++ pieces_text l.later (pieces_of f (drop l.item-index l.items)) ≡ (l.fn.line.items ++ 91 ∷ []) ++ pieces_text false (pieces_of f l.items)
