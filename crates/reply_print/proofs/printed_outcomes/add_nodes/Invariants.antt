use Rattle.std.proofs.Common.{◌≡◌, [], ◌∷◌, ◌++◌, false, drop}
use Rattle.reply_print.specs.OutcomePieces.{node_pieces}
use Rattle.reply_print.specs.Piece.{pieces_text}
use Rattle.reply_print.proofs.printed_outcomes.add_nodes.Given as goal

abbrev pub invariant-loop-node : goal.invariant-loop-node
invariant-loop-node l =
    l.line.items ++ pieces_text l.later (node_pieces (drop l.node-index l.nodes) l.left) ≡ (l.fn.line.items ++ 91 ∷ []) ++ pieces_text false (node_pieces l.nodes l.multipliers)
