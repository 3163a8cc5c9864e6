use Rattle.std.proofs.lemmas.Result.{on_ok_weaker}
use Rattle.reply_print.proofs.Behind.{item_added}
use Rattle.reply_print.proofs.printing.add_item.Goals as goal

pub returns : goal.returns
returns g c =
    on_ok_weaker c.print.result
    (λ e. item_added c.args.line.now.items c.append.new.line.items c.print.new.line.items c.comma.result.now c.args.later (g.P.Printed.piece c.args.item.now)
    c.comma.ensures c.in_ok-append.ensures e)
    c.print.ensures
