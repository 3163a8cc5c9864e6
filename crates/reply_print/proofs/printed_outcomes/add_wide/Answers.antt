use Rattle.std.proofs.Common.{codes, ◌∙◌}
use Rattle.std.proofs.lemmas.Result.{on_ok_weaker}
use Rattle.reply_print.specs.OutcomePieces.{pair_words, wide_piece}
use Rattle.reply_print.specs.Piece.{words, no_fields, field}
use Rattle.reply_print.proofs.Behind.{closed, fields_of}
use Rattle.reply_print.proofs.printed_outcomes.add_wide.Goals as goal

pub returns : goal.returns
returns c =
    let right = field (codes "right") (pair_words c.args.wide.now.right) no_fields in
    let operator = field (codes "operator") (words c.operator.result.now) right in
    let fields = c.in_ok-add_operand-2.ensures no_fields ∙ c.in_ok-add_words.ensures right ∙ c.in_ok-add_operand.ensures operator in
    on_ok_weaker c.append-2.result
    (λ e. closed c.args.line.now.items c.append.new.line.items c.add_operand-2.new.line.items c.append-2.new.line.items (fields_of (wide_piece c.args.wide.now))
    c.in_ok-append.ensures
    (rw c.operator.ensures at fields) e)
    c.append-2.ensures
