use Rattle.std.proofs.Common.{codes, ◌∙◌}
use Rattle.std.proofs.lemmas.Result.{on_ok_weaker}
use Rattle.reply_print.specs.BatchPieces.{natural, fraction, each, leg_piece}
use Rattle.reply_print.specs.Piece.{words, no_fields, field}
use Rattle.reply_print.specs.ReplyPieces.{position_piece}
use Rattle.reply_print.proofs.Behind.{closed, fields_of}
use Rattle.reply_print.proofs.printed_orders.PositionPrinted.print.Goals as goal

pub returns : goal.returns
returns c =
    let p = c.args.self.now in
    let side = field (codes "side") (words c.word_of.result.now) no_fields in
    let order = field (codes "order") (natural p.order) side in
    let legs = field (codes "legs") (each leg_piece c.as_slice.result.now) order in
    let fill = field (codes "fill") (fraction p.fill) legs in
    let fields =
    c.in_ok-add_words.ensures no_fields ∙ c.in_ok-add_number-2.ensures side ∙ c.in_ok-add_items.ensures order ∙ c.in_ok-add_field.ensures legs ∙ c.in_ok-add_number.ensures fill in
    on_ok_weaker c.append-2.result
    (λ e. closed c.args.line.now.items c.append.new.line.items c.add_words.new.line.items c.append-2.new.line.items (fields_of (position_piece p))
    c.in_ok-append.ensures
    (rw (c.from.ensures, c.word_of.ensures, c.as_slice.ensures) at fields) e)
    c.append-2.ensures
