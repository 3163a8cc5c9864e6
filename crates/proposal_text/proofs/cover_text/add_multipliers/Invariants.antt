use Rattle.std.proofs.Common.{◌≡◌, [], ◌∷◌, ◌++◌, false, drop}
use Rattle.reply_print.specs.Piece.{pieces_text}
use Rattle.proposal_text.proofs.CoverLists.{flat_of}
use Rattle.proposal_text.proofs.cover_text.add_multipliers.Given as goal

abbrev pub invariant-loop-multiplier : goal.invariant-loop-multiplier
invariant-loop-multiplier l =
    l.line.items ++ pieces_text l.later (flat_of (drop l.multiplier-index l.multipliers)) ≡ (l.fn.line.items ++ 91 ∷ []) ++ pieces_text false (flat_of l.multipliers)
