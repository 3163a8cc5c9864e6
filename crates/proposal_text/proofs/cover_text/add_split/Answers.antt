use Rattle.std.proofs.Common.{codes}
use Rattle.std.proofs.lemmas.Result.{on_ok_weaker}
use Rattle.reply_print.specs.BatchPieces.{natural}
use Rattle.reply_print.specs.Piece.{no_fields, field}
use Rattle.reply_print.proofs.Behind.{closed}
use Rattle.proposal_text.proofs.cover_text.add_split.Goals as goal

pub returns : goal.returns
returns c =
    let fields = c.in_ok-add_number.ensures no_fields in
    on_ok_weaker c.append-2.result
    (λ e. closed c.args.line.now.items c.append.new.line.items c.add_number.new.line.items c.append-2.new.line.items (field (codes "split") (natural c.args.class) no_fields)
    c.in_ok-append.ensures (rw c.from.ensures at fields) e)
    c.append-2.ensures
