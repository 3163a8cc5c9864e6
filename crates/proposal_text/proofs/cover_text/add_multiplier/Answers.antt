use Rattle.std.proofs.Common.{[], ◌∷◌, true, refl, ◌∙◌}
use Rattle.std.proofs.lemmas.Result.{on_ok_weaker}
use Rattle.reply_print.specs.BatchPieces.{natural, fraction}
use Rattle.reply_print.specs.Piece.{piece}
use Rattle.reply_print.proofs.Behind.{item_added}
use Rattle.proposal_text.proofs.cover_text.add_multiplier.Goals as goal

pub returns : goal.returns
returns c =
    let m = c.args.multiplier.now in
    let first = rw c.from.ensures at c.in_ok-print.ensures in
    on_ok_weaker c.print-2.result
    (λ e ps. item_added c.print.new.line.items c.append-2.new.line.items c.print-2.new.line.items (44 ∷ []) true (fraction m.by) refl c.in_ok-append-2.ensures e ps
    ∙ item_added c.args.line.now.items c.append.new.line.items c.print.new.line.items c.comma.result.now c.args.later (natural m.class) c.comma.ensures c.in_ok-append.ensures first (piece (fraction m.by) ps))
    c.print-2.ensures
