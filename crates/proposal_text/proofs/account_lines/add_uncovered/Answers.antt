use Rattle.std.proofs.Common.{codes, ◌∙◌}
use Rattle.std.proofs.lemmas.Result.{on_ok_weaker}
use Rattle.reply_print.specs.BatchPieces.{natural}
use Rattle.reply_print.specs.Piece.{words, no_fields, field}
use Rattle.reply_print.proofs.Behind.{closed, fields_of}
use Rattle.proposal_text.specs.Needs.{need_text}
use Rattle.proposal_text.specs.Pieces.{uncovered_piece}
use Rattle.proposal_text.proofs.account_lines.add_uncovered.Goals as goal

pub returns : goal.returns
returns c =
    let reply = field (codes "reply") (words (codes "refused")) no_fields in
    let reason = field (codes "reason") (words (codes "Margin")) reply in
    let number = field (codes "number") (natural 14) reason in
    let need = field (codes "need") (words (need_text c.args.need)) number in
    let fields =
    c.in_ok-add_words-2.ensures no_fields ∙ c.in_ok-add_words.ensures reply ∙ c.in_ok-add_number-2.ensures reason ∙ c.in_ok-add_need.ensures number
    ∙ c.in_ok-add_number.ensures need in
    on_ok_weaker c.append-2.result
    (λ e. closed c.args.line.now.items c.append.new.line.items c.add_words-2.new.line.items c.append-2.new.line.items (fields_of (uncovered_piece c.args.at c.args.need))
    c.in_ok-append.ensures
    (rw (c.from.ensures) at fields) e)
    c.append-2.ensures
