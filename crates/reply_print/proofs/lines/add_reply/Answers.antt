use Rattle.std.proofs.Common.{◌++◌, sym, ap, ◌∙◌}
use Rattle.std.proofs.lemmas.Result.{on_ok_weaker}
use Rattle.reply_print.specs.ReplyPieces.{reply_line}
use Rattle.reply_print.proofs.lines.add_reply.Goals as goal

pub returns-in-Cleared : goal.returns-in-Cleared
returns-in-Cleared c =
    on_ok_weaker c.add_cleared.result (λ e. e ∙ ap (λ r. c.args.text.now.items ++ reply_line c.args.line r) (sym c.in-Cleared.is)) c.add_cleared.ensures
