use Rattle.std.proofs.Common.{codes, ◌∙◌}
use Rattle.std.proofs.lemmas.Result.{on_ok_weaker}
use Rattle.reply_print.specs.BatchPieces.{natural}
use Rattle.reply_print.specs.Piece.{words, no_fields, field}
use Rattle.reply_print.proofs.Behind.{closed, fields_of}
use Rattle.proposal_text.specs.declared.needs.Need.TheVariants as need
use Rattle.proposal_text.specs.Needs.{need_text}
use Rattle.proposal_text.specs.Pieces.{secured_piece}
use Rattle.proposal_text.proofs.account_lines.add_secured.Goals as goal

pub returns : goal.returns
returns c =
    let reply = field (codes "reply") (words (codes "secured")) no_fields in
    let amount = field (codes "need") (words (need_text (need.Amount c.args.need))) reply in
    let line = field (codes "line") (natural c.from-2.result) amount in
    let fields =
    c.in_ok-add_words.ensures no_fields ∙ c.in_ok-add_need.ensures reply ∙ c.in_ok-add_number-2.ensures amount ∙ c.in_ok-add_number.ensures line in
    on_ok_weaker c.append-2.result
    (λ e. closed c.args.line.now.items c.append.new.line.items c.add_words.new.line.items c.append-2.new.line.items (fields_of (secured_piece c.args.at c.args.account c.args.need))
    c.in_ok-append.ensures
    (rw (c.from.ensures, c.from-2.ensures) at fields) e)
    c.append-2.ensures
