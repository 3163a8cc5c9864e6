use Rattle.std.proofs.Common.{codes, ◌∙◌}
use Rattle.std.proofs.lemmas.Result.{on_ok_weaker}
use Rattle.reply_print.specs.BatchPieces.{fraction}
use Rattle.reply_print.specs.Piece.{no_fields, field}
use Rattle.reply_print.specs.OutcomePieces.{multiplier_piece}
use Rattle.reply_print.proofs.Behind.{closed, fields_of}
use Rattle.reply_print.proofs.printed_outcomes.MultiplierPrinted.print.Goals as goal

pub returns : goal.returns
returns c =
    let by = field (codes "by") (fraction c.args.self.now.by) no_fields in
    let fields = c.in_ok-add_field.ensures no_fields ∙ c.in_ok-add_number.ensures by in
    on_ok_weaker c.append-2.result
    (λ e. closed c.args.line.now.items c.append.new.line.items c.add_field.new.line.items c.append-2.new.line.items (fields_of (multiplier_piece c.args.self.now))
    c.in_ok-append.ensures
    (rw c.from.ensures at fields) e)
    c.append-2.ensures
