use Rattle.std.proofs.Common.{◌≡◌, [], ◌∷◌, ◌++◌, false, drop}
use Rattle.reply_print.specs.BatchPieces.{pieces_of}
use Rattle.reply_print.specs.Piece.{pieces_text}
use Rattle.proposal_text.specs.CoverPieces.{cell_piece}
use Rattle.proposal_text.proofs.cover_text.add_nodes.Given as goal

abbrev pub invariant-loop-node : goal.invariant-loop-node
invariant-loop-node l =
    l.line.items ++ pieces_text l.later (pieces_of cell_piece (drop l.node-index l.nodes)) ≡ (l.fn.line.items ++ 91 ∷ []) ++ pieces_text false (pieces_of cell_piece l.nodes)
