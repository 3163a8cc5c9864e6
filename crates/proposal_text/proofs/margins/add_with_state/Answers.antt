use Rattle.std.proofs.Common.{codes, ◌∙◌}
use Rattle.std.proofs.lemmas.Result.{on_ok_weaker}
use Rattle.reply_print.specs.BatchPieces.{natural, each, whole_words}
use Rattle.reply_print.specs.Piece.{words, no_fields, field}
use Rattle.reply_print.proofs.Behind.{closed, fields_of}
use Rattle.reply_print.specs.OutcomePieces.{state_entries}
use Rattle.proposal_text.specs.MarginPieces.{margin_text, margin_with}
use Rattle.proposal_text.proofs.margins.add_with_state.Goals as goal

pub returns : goal.returns
returns c =
    let text = margin_text c.args.margin.now in
    let reply = field (codes "reply") (words (codes "margin")) no_fields in
    let market = field (codes "market") (natural c.from-3.result) reply in
    let margin = field (codes "margin") (words text) market in
    let line = field (codes "line") (natural c.from-2.result) margin in
    let at = field (codes "at") (each whole_words (state_entries c.args.state.now)) line in
    let fields =
    c.in_ok-add_words.ensures no_fields ∙ c.in_ok-add_number-3.ensures reply ∙ c.in_ok-add_margin_field.ensures market ∙ c.in_ok-add_number-2.ensures margin
    ∙ c.in_ok-add_items.ensures line ∙ c.in_ok-add_number.ensures at in
    on_ok_weaker c.append-2.result
    (λ e. closed c.args.line.now.items c.append.new.line.items c.add_words.new.line.items c.append-2.new.line.items (fields_of (margin_with c.args.at c.args.account c.args.market text c.args.state.now))
    c.in_ok-append.ensures
    (rw (c.from.ensures, c.from-2.ensures, c.from-3.ensures) at fields) e)
    c.append-2.ensures
