use Rattle.std.proofs.lemmas.Result.{on_ok_weaker}
use Rattle.reply_print.specs.BatchPieces.{natural}
use Rattle.reply_print.proofs.Behind.{item_added}
use Rattle.proposal_text.proofs.cover_text.add_class.Goals as goal

pub returns : goal.returns
returns c =
    on_ok_weaker c.print.result
    (λ e. item_added c.args.line.now.items c.append.new.line.items c.print.new.line.items c.comma.result.now c.args.later (natural c.args.class) c.comma.ensures c.in_ok-append.ensures
    (rw c.from.ensures at e))
    c.print.ensures
