use Rattle.std.proofs.Common.{codes, ◌∙◌}
use Rattle.std.proofs.lemmas.Result.{on_ok_weaker}
use Rattle.reply_print.specs.BatchPieces.{natural, fraction}
use Rattle.reply_print.specs.Piece.{words, no_fields, field}
use Rattle.proposal_text.specs.Pieces.{proposed_piece}
use Rattle.reply_print.proofs.Behind.{closed, fields_of}
use Rattle.proposal_text.proofs.printing.add_proposed.Goals as goal

pub returns : goal.returns
returns c =
    let surplus = field (codes "surplus") (fraction c.args.proved.0) no_fields in
    let reply = field (codes "reply") (words (codes "proposed")) surplus in
    let market = field (codes "market") (natural c.from-2.result) reply in
    let line = field (codes "line") (natural c.from.result) market in
    let least = field (codes "least_bound") (fraction c.args.best.1) line in
    let bound = field (codes "bound") (fraction c.args.proved.1) least in
    let fields =
    c.in_ok-add_field-4.ensures no_fields ∙ c.in_ok-add_words.ensures surplus ∙ c.in_ok-add_number-2.ensures reply ∙ c.in_ok-add_number.ensures market
    ∙ c.in_ok-add_field-3.ensures line ∙ c.in_ok-add_field-2.ensures least ∙ c.in_ok-add_field.ensures bound in
    on_ok_weaker c.append-2.result
    (λ e. closed c.args.line.now.items c.append.new.line.items c.add_field-4.new.line.items c.append-2.new.line.items (fields_of (proposed_piece c.args.at c.args.market c.args.proved.0 c.args.proved.1 c.args.best.0 c.args.best.1))
    c.in_ok-append.ensures
    (rw (c.from.ensures, c.from-2.ensures) at fields) e)
    c.append-2.ensures
