use Rattle.std.proofs.Common.{codes, ◌++◌, true}
use Rattle.std.proofs.lemmas.Result.{on_ok_weaker}
use Rattle.reply_print.specs.BatchPieces.{natural}
use Rattle.reply_print.specs.Piece.{piece_text, fields_text, field, words, no_fields}
use Rattle.reply_print.proofs.Behind.{behind}
use Rattle.reply_print.proofs.small_lines.add_opened.Goals as goal

pub returns : goal.returns
returns c =
    let reply = fields_text true (field (codes "reply") (words (codes "opened")) no_fields) in
    on_ok_weaker c.append.result
    (λ e. rw (c.from.ensures, c.from-2.ensures) at
    (behind c.args.text.now.items c.add_behind.new.line.items c.append.new.line.items (codes "{\"account\":" ++ piece_text (natural c.from.result)) _ c.in_ok-add_behind.ensures
    (behind c.add_behind.new.line.items c.add_behind-2.new.line.items c.append.new.line.items (codes ",\"line\":" ++ piece_text (natural c.from-2.result)) reply c.in_ok-add_behind-2.ensures e)))
    c.append.ensures
