use Rattle.std.proofs.Common.{◌≡◌, [], ◌∷◌, ◌++◌, false, drop}
use Rattle.reply_print.specs.BatchPieces.{natural, pieces_of}
use Rattle.reply_print.specs.Piece.{pieces_text}
use Rattle.proposal_text.proofs.cover_text.add_classes.Given as goal

abbrev pub invariant-loop-class : goal.invariant-loop-class
invariant-loop-class l =
    l.line.items ++ pieces_text l.later (pieces_of natural (drop l.class-index l.classes)) ≡ (l.fn.line.items ++ 91 ∷ []) ++ pieces_text false (pieces_of natural l.classes)
