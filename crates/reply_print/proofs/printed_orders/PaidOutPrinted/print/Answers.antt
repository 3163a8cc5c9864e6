use Rattle.std.proofs.Common.{rules, FitsSigned, codes, ◌∙◌}
use Rattle.std.proofs.lemmas.Int.{to_z-of_z}
use Rattle.std.proofs.lemmas.Result.{on_ok_weaker}
use mir.Syntax.{w128}
use mir.Val.{to_z, of_z}
use Rattle.reply_print.specs.BatchPieces.{natural, whole_words}
use Rattle.reply_print.specs.Piece.{no_fields, field}
use Rattle.reply_print.specs.ReplyPieces.{paid_piece}
use Rattle.reply_print.proofs.Behind.{closed, fields_of}
use Rattle.reply_print.proofs.printed_orders.PaidOutPrinted.print.Goals as goal

pub returns : goal.returns
returns c =
    let paid = c.args.self.now in
    let fits : FitsSigned w128 c.signed.result = search rules in
    let order = field (codes "order") (natural paid.order) no_fields in
    let batch = field (codes "batch") (natural c.from-2.result) order in
    let amount = field (codes "amount") (whole_words (to_z w128 (of_z w128 c.signed.result))) batch in
    let fields = c.in_ok-add_number-3.ensures no_fields ∙ c.in_ok-add_number-2.ensures order ∙ c.in_ok-add_field.ensures batch ∙ c.in_ok-add_number.ensures amount in
    on_ok_weaker c.append-2.result
    (λ e. closed c.args.line.now.items c.append.new.line.items c.add_number-3.new.line.items c.append-2.new.line.items (fields_of (paid_piece paid))
    c.in_ok-append.ensures
    (rw (c.from.ensures, c.from-2.ensures, to_z-of_z w128 c.signed.result fits, c.signed.ensures) at fields) e)
    c.append-2.ensures
