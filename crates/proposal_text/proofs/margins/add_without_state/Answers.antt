use Rattle.std.proofs.Common.{codes, ◌∙◌}
use Rattle.std.proofs.lemmas.Result.{on_ok_weaker}
use Rattle.reply_print.specs.BatchPieces.{natural}
use Rattle.reply_print.specs.Piece.{words, no_fields, field}
use Rattle.reply_print.proofs.Behind.{closed, fields_of}
use Rattle.proposal_text.specs.MarginPieces.{margin_text, margin_without}
use Rattle.proposal_text.proofs.margins.add_without_state.Goals as goal

pub returns : goal.returns
returns c =
    let text = margin_text c.args.margin.now in
    let reply = field (codes "reply") (words (codes "margin")) no_fields in
    let market = field (codes "market") (natural c.from-3.result) reply in
    let margin = field (codes "margin") (words text) market in
    let line = field (codes "line") (natural c.from-2.result) margin in
    let fields =
    c.in_ok-add_words.ensures no_fields ∙ c.in_ok-add_number-3.ensures reply ∙ c.in_ok-add_margin_field.ensures market ∙ c.in_ok-add_number-2.ensures margin
    ∙ c.in_ok-add_number.ensures line in
    on_ok_weaker c.append-2.result
    (λ e. closed c.args.line.now.items c.append.new.line.items c.add_words.new.line.items c.append-2.new.line.items (fields_of (margin_without c.args.at c.args.account c.args.market text))
    c.in_ok-append.ensures
    (rw (c.from.ensures, c.from-2.ensures, c.from-3.ensures) at fields) e)
    c.append-2.ensures
