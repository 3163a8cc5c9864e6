use Rattle.std.proofs.Common.{codes, ◌∙◌, ◌++◌, true}
use Rattle.std.proofs.lemmas.Result.{on_ok_weaker}
use Rattle.reply_print.specs.BatchPieces.{natural}
use Rattle.reply_print.specs.Piece.{words, no_fields, field, piece_text, fields_text}
use Rattle.reply_print.proofs.Behind.{behind, quoted_behind}
use Rattle.reply_print.proofs.small_lines.add_refused.Goals as goal

pub returns : goal.returns
returns c =
    let reply = field (codes "reply") (words (codes "refused")) no_fields in
    let reason = field (codes "reason") (words c.reason.result.now) reply in
    let number = field (codes "number") (natural c.from.result) reason in
    on_ok_weaker c.append-3.result
    (λ e. let tail = quoted_behind c.add_behind.new.line.items c.append.new.line.items c.append-2.new.line.items c.append-3.new.line.items (codes ",\"reason\":\"") c.reason.result.now (fields_text true reply) c.in_ok-append.ensures c.in_ok-append-2.ensures e in
    let ends = behind c.add_head.new.text.items c.add_behind.new.line.items c.append-3.new.line.items (codes ",\"number\":" ++ piece_text (natural c.from.result)) (fields_text true reason) c.in_ok-add_behind.ensures tail in
    rw (c.from.ensures, c.reason.ensures) at (ends ∙ c.in_ok-add_head.ensures number))
    c.append-3.ensures
