use Rattle.std.proofs.Common.{false, codes, ◌∙◌}
use Rattle.std.proofs.lemmas.Result.{on_ok_weaker}
use Rattle.reply_print.specs.BatchPieces.{natural}
use Rattle.reply_print.specs.Piece.{words, no_fields, field}
use Rattle.reply_print.specs.ReplyPieces.{refused_with}
use Rattle.reply_print.proofs.Behind.{closed, fields_of}
use Rattle.proposal_text.proofs.printing.add_refused.Goals as goal

pub returns : goal.returns
returns c =
    let reply = field (codes "reply") (words (codes "refused")) no_fields in
    let reason = field (codes "reason") (words c.args.reason.now) reply in
    let number = field (codes "number") (natural c.args.number) reason in
    let fields =
    c.in_ok-add_words-2.ensures no_fields ∙ c.in_ok-add_words.ensures reply ∙ c.in_ok-add_number-2.ensures reason ∙ c.in_ok-add_number.ensures number in
    on_ok_weaker c.append-2.result
    (λ e. closed c.args.line.now.items c.append.new.line.items c.add_words-2.new.line.items c.append-2.new.line.items (fields_of (refused_with false c.args.at c.args.number 0 c.args.reason.now))
    c.in_ok-append.ensures
    (rw (c.from.ensures) at fields) e)
    c.append-2.ensures
