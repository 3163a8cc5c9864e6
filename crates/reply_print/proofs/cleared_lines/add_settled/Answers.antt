use Rattle.std.proofs.Common.{codes, ◌∙◌}
use Rattle.std.proofs.lemmas.Result.{on_ok_weaker}
use Rattle.reply_print.specs.BatchPieces.{natural, each}
use Rattle.reply_print.specs.Piece.{words, no_fields, field}
use Rattle.reply_print.specs.ReplyPieces.{paid_piece, settled_piece}
use Rattle.reply_print.proofs.Behind.{closed, fields_of}
use Rattle.reply_print.proofs.cleared_lines.add_settled.Goals as goal

pub returns : goal.returns
returns c =
    let reply = field (codes "reply") (words (codes "settled")) no_fields in
    let payouts = field (codes "payouts") (each paid_piece c.args.payouts.now) reply in
    let market = field (codes "market") (natural c.from-3.result) payouts in
    let line = field (codes "line") (natural c.from-2.result) market in
    let fields =
    c.in_ok-add_words.ensures no_fields ∙ c.in_ok-add_items.ensures reply ∙ c.in_ok-add_number-3.ensures payouts ∙ c.in_ok-add_number-2.ensures market
    ∙ c.in_ok-add_number.ensures line in
    on_ok_weaker c.append-2.result
    (λ e. closed c.args.line.now.items c.append.new.line.items c.add_words.new.line.items c.append-2.new.line.items (fields_of (settled_piece c.args.at c.args.market c.args.lapsed c.args.payouts.now))
    c.in_ok-append.ensures
    (rw (c.from.ensures, c.from-2.ensures, c.from-3.ensures) at fields) e)
    c.append-2.ensures
