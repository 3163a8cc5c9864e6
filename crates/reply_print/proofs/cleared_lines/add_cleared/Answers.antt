use Rattle.std.proofs.Common.{◌∙◌}
use Rattle.std.proofs.lemmas.Result.{on_ok_weaker}
use Rattle.reply_print.specs.BatchPieces.{are_single}
use Rattle.reply_print.specs.OutcomePieces.{certificate_field}
use Rattle.reply_print.specs.ReplyPieces.{cleared_middle, cleared_piece}
use Rattle.reply_print.proofs.Behind.{closed, fields_of}
use Rattle.reply_print.proofs.cleared_lines.add_cleared.Goals as goal

pub returns : goal.returns
returns c =
    let outcome = c.args.outcome.now in
    let middle = cleared_middle outcome.mark (are_single c.args.batch.now.orders) c.args.at c.args.market c.args.batch.now outcome in
    let fields = c.in_ok-add_middle.ensures ∙ c.in_ok-add_proof.ensures middle ∙ c.in_ok-add_number.ensures (certificate_field outcome.mark middle) in
    on_ok_weaker c.append-2.result
    (λ e. closed c.args.line.now.items c.append.new.line.items c.add_middle.new.line.items c.append-2.new.line.items (fields_of (cleared_piece c.args.at c.args.number c.args.market c.args.batch.now outcome))
    c.in_ok-append.ensures
    (rw c.from.ensures at fields) e)
    c.append-2.ensures
