use Rattle.std.proofs.Common.{codes, ◌∙◌}
use Rattle.std.proofs.lemmas.Result.{on_ok_weaker}
use Rattle.reply_print.specs.BatchPieces.{natural}
use Rattle.reply_print.specs.Piece.{words, no_fields, field}
use Rattle.reply_print.proofs.Behind.{closed, fields_of}
use Rattle.proposal_text.specs.PricePieces.{price_text, quoted_piece}
use Rattle.proposal_text.proofs.prices.add_quoted.Goals as goal

pub returns : goal.returns
returns c =
    let reply = field (codes "reply") (words (codes "quoted")) no_fields in
    let market = field (codes "market") (natural c.from-2.result) reply in
    let line = field (codes "line") (natural c.from.result) market in
    let bid = field (codes "bid") (words (price_text c.args.bid)) line in
    let fields =
    c.in_ok-add_words.ensures no_fields ∙ c.in_ok-add_number-2.ensures reply ∙ c.in_ok-add_number.ensures market ∙ c.in_ok-add_price-2.ensures line
    ∙ c.in_ok-add_price.ensures bid in
    on_ok_weaker c.append-2.result
    (λ e. closed c.args.line.now.items c.append.new.line.items c.add_words.new.line.items c.append-2.new.line.items (fields_of (quoted_piece c.args.at c.args.market c.args.bid c.args.ask))
    c.in_ok-append.ensures
    (rw (c.from.ensures, c.from-2.ensures) at fields) e)
    c.append-2.ensures
