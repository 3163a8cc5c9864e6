use Rattle.std.proofs.Common.{codes, ◌∙◌}
use Rattle.std.proofs.lemmas.Result.{on_ok_weaker}
use Rattle.reply_print.specs.BatchPieces.{natural, each}
use Rattle.reply_print.specs.Piece.{words, no_fields, field}
use Rattle.reply_print.specs.ReplyPieces.{position_piece}
use Rattle.proposal_text.specs.Pieces.{positions_piece}
use Rattle.reply_print.proofs.Behind.{closed, fields_of}
use Rattle.proposal_text.proofs.printing.add_positions.Goals as goal

pub returns : goal.returns
returns c =
    let reply = field (codes "reply") (words (codes "positions")) no_fields in
    let positions = field (codes "positions") (each position_piece c.args.positions.now) reply in
    let market = field (codes "market") (natural c.from-3.result) positions in
    let line = field (codes "line") (natural c.from-2.result) market in
    let fields =
    c.in_ok-add_words.ensures no_fields ∙ c.in_ok-add_items.ensures reply ∙ c.in_ok-add_number-3.ensures positions ∙ c.in_ok-add_number-2.ensures market
    ∙ c.in_ok-add_number.ensures line in
    on_ok_weaker c.append-2.result
    (λ e. closed c.args.line.now.items c.append.new.line.items c.add_words.new.line.items c.append-2.new.line.items (fields_of (positions_piece c.args.at c.args.account c.args.market c.args.positions.now))
    c.in_ok-append.ensures
    (rw (c.from.ensures, c.from-2.ensures, c.from-3.ensures) at fields) e)
    c.append-2.ensures
