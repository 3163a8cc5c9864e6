use Rattle.std.proofs.Common.{codes, ◌∙◌}
use Rattle.std.proofs.lemmas.Result.{on_ok_weaker}
use Rattle.reply_print.specs.BatchPieces.{natural, fraction}
use Rattle.reply_print.specs.Piece.{words, no_fields, field}
use Rattle.proposal_text.specs.Pieces.{tried_piece}
use Rattle.reply_print.proofs.Behind.{closed, fields_of}
use Rattle.proposal_text.proofs.printing.add_tried.Goals as goal

pub returns : goal.returns
returns c =
    let trial = c.args.trial.now in
    let surplus = field (codes "surplus") (fraction trial.surplus) no_fields in
    let reply = field (codes "reply") (words (codes "tried")) surplus in
    let market = field (codes "market") (natural c.from-2.result) reply in
    let mark = field (codes "mark") (words c.mark.result.now) market in
    let line = field (codes "line") (natural c.from.result) mark in
    let fields =
    c.in_ok-add_field-2.ensures no_fields ∙ c.in_ok-add_words-2.ensures surplus ∙ c.in_ok-add_number-2.ensures reply ∙ c.in_ok-add_words.ensures market
    ∙ c.in_ok-add_number.ensures mark ∙ c.in_ok-add_field.ensures line in
    on_ok_weaker c.append-2.result
    (λ e. closed c.args.line.now.items c.append.new.line.items c.add_field-2.new.line.items c.append-2.new.line.items (fields_of (tried_piece c.args.at c.args.market trial))
    c.in_ok-append.ensures
    (rw (c.from.ensures, c.from-2.ensures, c.mark.ensures) at fields) e)
    c.append-2.ensures
