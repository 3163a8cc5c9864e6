use Rattle.std.proofs.Common.{codes, ◌++◌}
use Rattle.std.proofs.lemmas.Result.{on_ok_weaker}
use Rattle.reply_print.specs.BatchPieces.{natural}
use Rattle.reply_print.specs.Piece.{whole, piece_text}
use Rattle.reply_print.proofs.Behind.{behind, marked_behind, quoted_behind}
use Rattle.reply_print.proofs.small_lines.add_moved.Goals as goal

pub returns : goal.returns
returns c =
    on_ok_weaker c.append-3.result
    (λ e. rw (c.from.ensures, c.from-2.ensures) at
    (behind c.args.text.now.items c.add_behind.new.line.items c.append-3.new.line.items (codes "{\"account\":" ++ piece_text (natural c.from.result)) _ c.in_ok-add_behind.ensures
    (marked_behind c.add_behind.new.line.items c.add_whole.new.line.items c.append-3.new.line.items (codes ",\"balance\":\"") (piece_text (whole c.args.balance.now)) _ c.in_ok-add_whole.ensures
    (behind c.add_whole.new.line.items c.add_behind-2.new.line.items c.append-3.new.line.items (codes "\",\"line\":" ++ piece_text (natural c.from-2.result)) _ c.in_ok-add_behind-2.ensures
    (quoted_behind c.add_behind-2.new.line.items c.append.new.line.items c.append-2.new.line.items c.append-3.new.line.items (codes ",\"reply\":\"") c.args.reply.now (codes "}") c.in_ok-append.ensures c.in_ok-append-2.ensures e)))))
    c.append-3.ensures
